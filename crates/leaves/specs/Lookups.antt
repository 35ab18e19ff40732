-- What a pool holds, as grants, and the grant that answers an access.
use Rattle.std.specs.Prelude.{ℕ, cond, ◌&&◌, List, Some, None, Option, nat_lt}
use Rattle.access.specs.declared.accesses.Access.{Access}
use Rattle.access.specs.Accesses.{page_of, is_aligned}
use Rattle.registers.specs.Registers.{is_paged, asid_of}
use Rattle.translator.specs.declared.grants.Grant.{Grant}
use Rattle.translator.specs.Grants.{allows}
use Rattle.layout.specs.Finds.{found}
use Rattle.leaves.specs.Leaves.{as_grant}

-- the grant that the pool holds for a page under an ASID: an ASID over 15 has no tables
abbrev pub grant_at : List ℕ → ℕ → ℕ → Option Grant
grant_at pool asid page = cond (nat_lt asid 16) (as_grant asid page (found pool asid page)) None

-- a grant that allows the access
abbrev pub allowing : Access → Option Grant → Option Grant
allowing a None = None
allowing a (Some g) = cond (allows a g) (Some g) None

-- the grant that answers an access under the guest's root register: the pool is consulted for an aligned access under Sv39
abbrev pub hit : List ℕ → ℕ → Access → Option Grant
hit pool register a = cond (is_aligned a && is_paged register) (allowing a (grant_at pool (asid_of register) (page_of a))) None
