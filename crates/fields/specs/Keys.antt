-- The keys of fields.
use Rattle.std.specs.Prelude.{◌≡◌, ℕ, List, Some, None, codes, Option, ◌≢◌}
use Rattle.fields.specs.declared.tags.Tag.{Tag}
use Rattle.fields.specs.declared.tags.Tag.TheVariants.{Op, Mode, Sum, Mxr, Va, Asid, Data, Pa}

-- the key of a tag
abbrev pub key_text : Tag → List ℕ
key_text Op = codes "op"
key_text Mode = codes "mode"
key_text Sum = codes "sum"
key_text Mxr = codes "mxr"
key_text Va = codes "va"
key_text Asid = codes "asid"
key_text Data = codes "data"
key_text Pa = codes "pa"

-- what a reader of a key answers: its tag, or that it is the key of none
abbrev pub ReadsKey : List ℕ → Option Tag → Type 0
ReadsKey key (Some t) = key ≡ key_text t
ReadsKey key None = (t : Tag) → key ≢ key_text t
