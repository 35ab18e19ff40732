-- The first item that passes a test, and the grant that answers.
use Rattle.std.specs.Prelude.{◌≡◌, Bool, true, false, cond, [], None, refl}
use Rattle.access.specs.declared.accesses.Access.{Access}
use Rattle.stages.specs.Stages.{World}
use Rattle.translator.specs.Grants.{first_of, consults, answering}

cond_same : {X : Type 0} (b : Bool) (x : X) → cond b x x ≡ x
cond_same true x = refl
cond_same false x = refl

-- an empty book answers nothing
pub answering_none : (w : World) (a : Access) → answering w a [] ≡ None
unfolding first_of
answering_none w a = cond_same (consults w a) None
