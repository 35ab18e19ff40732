-- Piles of translators: what their calls do, and what holds of one as it is made.
use Rattle.std.specs.Prelude.{◌≡◌, ℕ, replicate}
use Rattle.translator.specs.declared.nested.Nested.{Nested}
use Rattle.translator.specs.declared.translators.Translator.{Ghosts}
use Rattle.translator.specs.contracts.nested.Nested.{the_row as nested-row}
use Rattle.translator.specs.contracts.nested.NestedTranslator.TheImpl as nested
use Rattle.tlb.specs.declared.layers.Tlb.{Tlb}
use Rattle.tlb.specs.contracts.layers.Tlb.{the_row as tlb-row}
use Rattle.tlb.specs.contracts.layers.TlbTranslator.TheImpl as tlb
use Rattle.tlb.specs.Tables.{empty_sets}
use Rattle.tlb.specs.Layer.{sets_of}
use Rattle.shadow.specs.declared.shadows.Shadow.{Shadow}
use Rattle.shadow.specs.contracts.shadows.Shadow.{the_row as shadow-row}
use Rattle.shadow.specs.contracts.shadows.ShadowTranslator.TheImpl as shadow
use Rattle.shadow.specs.Shadows.{MadeOf}

-- the ghost members of a translator say what an access, a fence and a host fence do to it: here those of the one that walks always
abbrev pub nested_members : Ghosts Nested
nested_members = nested.ghosts

-- those of a shadow
abbrev pub shadow_members : Ghosts Shadow
shadow_members = shadow.ghosts

-- those of a TLB are made of the members below it: here over the walk
abbrev pub tlb_members : Ghosts (Tlb Nested)
tlb_members = tlb.ghosts nested-row nested.ghosts nested.dict

-- and those of two TLBs over a shadow
abbrev pub tlbs_members : Ghosts (Tlb (Tlb Shadow))
tlbs_members =
    tlb.ghosts (tlb-row shadow-row) (tlb.ghosts shadow-row shadow.ghosts shadow.dict) (tlb.dict shadow-row shadow.ghosts shadow.dict)

-- every nested translator is as it is made: it remembers nothing
abbrev pub IsNested : Nested → Type 0
IsNested s = Unit {0}

-- a shadow over n zero words
abbrev pub NewShadow : ℕ → Shadow → Type 0
NewShadow n s = MadeOf (replicate n 0) s.store

-- an empty TLB over a translator that is new
abbrev pub NewTlb : {T : Type 0} → (T → Type 0) → Tlb T → Type 0
NewTlb New s = (sets_of s ≡ empty_sets) × New s.below
