-- One step of the cursor: a key cut at '=', and a value cut at a stop.
use Rattle.std.proofs.Common.{◌≡◌, ℕ, ◌+◌, ◌-◌, ◌<◌, ◌≤◌, List, ◌∷◌, ◌++◌, length, drop, sym, refl, ap, ◌∙◌, subst, arith, rules}
use Rattle.std.specs.List.{slice_range}
use Rattle.std.proofs.lemmas.List.{drop-drop, take_at, take_rest, length-drop, length-append}
use Rattle.fields.specs.declared.tags.Tag.{Tag}
use Rattle.fields.specs.declared.tags.Tag.TheVariants.{Op, Mode, Sum, Mxr, Va, Asid, Data, Pa}
use Rattle.trace.specs.declared.marks.Mark.TheVariants.{Equals, Stop}
use Rattle.fields.specs.declared.steps.Field.{Field}
use Rattle.trace.specs.Marks.{Lacks, CutAs}
use Rattle.fields.specs.Keys.{key_text}
use Rattle.fields.specs.Fields.{FieldIn, Handed}
use Rattle.trace.proofs.Cuts.{cut_once, cut_never, length_cut, drop_cut}

-- no key has '='
pub key_plain : (k : Tag) → Lacks Equals (key_text k)
key_plain Op = search rules
key_plain Mode = search rules
key_plain Sum = search rules
key_plain Mxr = search rules
key_plain Va = search rules
key_plain Asid = search rules
key_plain Data = search rules
key_plain Pa = search rules

-- the key cut from the rest of a line
module _ (line : List ℕ) (at : ℕ) {xs key after : List ℕ} {m : ℕ} (rest : xs ≡ slice_range line at (length line)) (cut : CutAs Equals xs key m after) where
  cut_rest : CutAs Equals (drop at line) key m after
  cut_rest = subst (λ ys. CutAs Equals ys key m after) (rest ∙ take_rest line at) cut

  module _ (k : Tag) (v : List ℕ) (t : ℕ) (r : List ℕ) (f : FieldIn k v t r (drop at line)) where
    -- a field's key and what follows it are those of the cut
    pub after_key : (key ≡ key_text k) × (m ≡ 61) × (after ≡ v ++ (t ∷ r))
    after_key = let c = cut_rest in cut_once Equals key (key_text k) m 61 after (v ++ (t ∷ r)) (sym c.whole ∙ f.text) c.plain c.marked (key_plain k) refl

    -- with no stop after the key there is no field
    pub no_value : Lacks Stop after → ⊥
    no_value lacks = cut_never Stop after v r t lacks after_key.2 f.stops

  -- both cuts make a field
  pub handed : (past : List ℕ) (stop : ℕ) (f : Field) → at ≤ length line → CutAs Stop after f.value.now stop past
      → key ≡ key_text f.tag → f.place ≡ at + length key + 1 → Handed line at f (f.place + length f.value.now + 1) stop
  handed past stop f low d e p =
      let c = cut_rest in
      let value = f.value.now in
      let i : at + (length key + 1) ≡ f.place = omega arith in
      let j : f.place + (length value + 1) ≡ f.place + length value + 1 = omega arith in
      let one : drop f.place line ≡ after =
      ap (λ n. drop n line) (sym i) ∙ sym (drop-drop (length key + 1) at line) ∙ ap (drop (length key + 1)) c.whole ∙ drop_cut key after m in
      let two : drop (f.place + length value + 1) line ≡ past =
      ap (λ n. drop n line) (sym j) ∙ sym (drop-drop (length value + 1) f.place line) ∙ ap (drop (length value + 1)) (one ∙ d.whole) ∙ drop_cut value past stop in
      let cw = c.whole in
      let cm : m ≡ 61 = c.marked in
      let dw = d.whole in
      let tv = take_at value (stop ∷ past) (length value) refl in
      record {
        here = record { text = cc; plain = d.plain; stops = d.marked };
        place = cc;
        steps = refl;
        inside = omega (arith, ap length c.whole, length_cut key after m, ap length d.whole, length_cut value past stop, length-drop at line);
      }

-- after a field less of the line is left
pub goes_on : (line : List ℕ) (at : ℕ) (f : Field) (on stop : ℕ) → Handed line at f on stop → length line - on < length line - at
goes_on line at f on stop h =
    let v = f.value.now in
    omega (
      arith,
      ap length h.here.text,
      length-append (key_text f.tag) (61 ∷ (v ++ (stop ∷ drop on line))),
      length-append v (stop ∷ drop on line),
      length-drop at line,
      length-drop on line,
    )
