-- The fields of a line, found one after another.
use Rattle.std.proofs.Common.{◌≡◌, ℕ, suc, ◌+◌, ◌<◌, ◌≤◌, List, [], ◌∷◌, ◌++◌, length, take, drop, None, sym, refl, ap, ◌∙◌, arith}
use Rattle.std.proofs.lemmas.List.{drop_all, length-drop, length-map, length-take-le, append_assoc}
use Rattle.trace.specs.declared.marks.Mark.TheVariants.{Stop}
use Rattle.fields.specs.declared.tags.Tag.{Tag}
use Rattle.fields.specs.declared.steps.Field.{Field}
use Rattle.trace.specs.Marks.{Lacks}
use Rattle.fields.specs.Items.{Item, field_text, line_text, EndsValue}
use Rattle.fields.specs.Fields.{FieldIn, Handed}
use Rattle.fields.specs.Scans.{item_of, items, Stands, Scanned, Scans}
use Rattle.fields.proofs.Items.{lf, space, field_once}

line_more : (f : Item) (fs : List Item) → 0 < length fs → line_text (f ∷ fs) ≡ field_text f (32 ∷ line_text fs)
line_more f [] some = absurd (omega arith)
line_more f (g ∷ gs) some = refl

-- no line begins where no field does
pub nowhere : (line : List ℕ) (at m : ℕ) → ((k : Tag) (v : List ℕ) (t : ℕ) (r : List ℕ) → FieldIn k v t r (drop at line) → ⊥) → Scans line at m [] None
nowhere line at m lacks f [] l p e = lacks f.0 f.1 10 [] record { text = e; plain = p.0; stops = lf }
nowhere line at m lacks f (g ∷ gs) l p e = lacks f.0 f.1 32 (line_text (g ∷ gs)) record { text = e; plain = p.0; stops = space }

-- a field that begins at `at`
module _ {line : List ℕ} {at on stop : ℕ} {f : Field} (h : Handed line at f on stop) where
  -- what follows it is what follows the first field of a line
  same_rest : (g : Item) (x : List ℕ) → Lacks Stop g.1 → EndsValue x → drop at line ≡ field_text g x → stop ∷ drop on line ≡ x
  same_rest g x p s e =
      (field_once (item_of f) g (stop ∷ drop on line) x h.here.plain p h.here.stops s (ap (λ (l : List ℕ). 32 ∷ l) (sym h.here.text ∙ e))).1

  -- after an LF before the end there is no line
  pub stray : (m : ℕ) → stop ≡ 10 → (on ≡ length line → ⊥) → Scans line at m [] None
  stray m was more g [] l p e =
      let o = same_rest g (10 ∷ []) p.0 lf e in
      let none : drop on line ≡ [] = cc in
      more (omega (arith, ap length none, length-drop on line, h.inside))
  stray m was more g (k ∷ ks) l p e =
      let o = same_rest g (32 ∷ line_text (k ∷ ks)) p.0 space e in
      let z : ◌≡◌ {A = ℕ} 10 32 = cc in
      omega (arith, z)

  -- after a space there is a line only where one goes on
  pub broken : (m n : ℕ) → m ≤ n + 1 → stop ≡ 32 → Scans line on n [] None → Scans line at m [] None
  broken m n low was lost g [] l p e =
      let o = same_rest g (10 ∷ []) p.0 lf e in
      let z : ◌≡◌ {A = ℕ} 32 10 = cc in
      omega (arith, z)
  broken m n low was lost g (k ∷ ks) l p e =
      let o = same_rest g (32 ∷ line_text (k ∷ ks)) p.0 space e in
      let rest : drop on line ≡ line_text (k ∷ ks) = cc in
      lost k ks (omega arith) p.1 rest

  stands : Stands line f
  stands = record { here = h.place; inside = omega (arith, h.steps, h.inside) }

  -- it is the last
  pub ended : (rest : List Field) → stop ≡ 10 → on ≡ length line → Scanned line at (f ∷ rest) 1
  ended rest was end =
      let t = h.here.text in
      let none : drop on line ≡ [] = drop_all on line (omega arith) in
      record { some = omega arith; within = omega arith; text = cc; plain = (h.here.plain, tt); stand = (stands, tt) }

  -- more follow
  pub ahead : (rest : List Field) (n : ℕ) → stop ≡ 32 → Scanned line on rest n → Scanned line at (f ∷ rest) (suc n)
  ahead rest n was more =
      let t = h.here.text in
      let long : length (items (take n rest)) ≡ n = length-map (take n rest) item_of ∙ length-take-le n rest more.within in
      let l = line_more (item_of f) (items (take n rest)) (omega (arith, more.some)) in
      let m = more.text in
      record {
        some = omega arith;
        within = omega (arith, more.within);
        text = cc;
        plain = (h.here.plain, more.plain);
        stand = (stands, more.stand);
      }

-- the k fields `done` stand from `at` up to `on`: what is found from `on` on is found from `at` on after them, and with no line
-- of 1 to n fields from `on` on there is none of 1 to m from `at` on
pub record Along (line : List ℕ) (at m on : ℕ) (done : List Field) (k : ℕ) : Type 0 where
  pub found : (all rest : List Field) (t n : ℕ) → all ≡ done ++ rest → t ≡ k + n → Scanned line on rest n → Scanned line at all t
  pub none : (n : ℕ) → m ≤ k + n → Scans line on n [] None → Scans line at m [] None

pub begun : (line : List ℕ) (at m : ℕ) → Along line at m at [] 0
begun line at m = record {
  found = λ all rest t n e q s. let z : t ≡ n = omega arith in rw (e, z) s;
  none = λ n low lost g gs l p e. lost g gs (omega arith) p e;
}

-- one field more
pub onward : {line : List ℕ} {at m on next stop : ℕ} {done more : List Field} {k : ℕ} {f : Field} → Along line at m on done k
    → Handed line on f next stop → stop ≡ 32 → more ≡ done ++ (f ∷ []) → Along line at m next more (k + 1)
onward {done = done} {f = f} along h was e = record {
  found = λ all rest t n e' q s.
      let i = append_assoc done (f ∷ []) rest in
      let a : all ≡ done ++ (f ∷ rest) = cc in
      along.found all (f ∷ rest) t (suc n) a (omega arith) (ahead h rest n was s);
  none = λ n low lost. along.none (n + 1) (omega arith) (broken h (n + 1) n (omega arith) was lost);
}
