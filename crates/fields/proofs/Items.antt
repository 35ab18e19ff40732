-- Fields one after another: a text has them in one way.
use Rattle.std.proofs.Common.{◌≡◌, ℕ, cond, eqb, List, [], ◌∷◌, ◌++◌, length, get_or, sym, refl, ap, ◌∙◌, inl, inr, arith}
use Rattle.trace.specs.declared.marks.Mark.TheVariants.{Equals, Stop}
use Rattle.fields.specs.declared.tags.Tag.{Tag}
use Rattle.fields.specs.declared.tags.Tag.TheVariants.{Op, Mode, Sum, Mxr, Va, Asid, Data, Pa}
use Rattle.trace.specs.Marks.{Is, Lacks}
use Rattle.fields.specs.Keys.{key_text}
use Rattle.fields.specs.Items.{Item, field_text, line_text, more_text, Plain, EndsValue}
use Rattle.trace.proofs.Cuts.{cut_once}
use Rattle.fields.proofs.Stepping.{key_plain}

-- keys differ in their first two letters
abbrev tag_by : List ℕ → Tag
tag_by key =
    let a = get_or key 0 0 in
    cond (eqb a 111) Op (cond (eqb a 115) Sum (cond (eqb a 118) Va (cond (eqb a 97) Asid (cond (eqb a 100) Data (cond (eqb a 112) Pa (cond (eqb (get_or key 1 0) 111) Mode Mxr))))))

tag_back : (k : Tag) → tag_by (key_text k) ≡ k
tag_back Op = refl
tag_back Mode = refl
tag_back Sum = refl
tag_back Mxr = refl
tag_back Va = refl
tag_back Asid = refl
tag_back Data = refl
tag_back Pa = refl

same_tag : (k l : Tag) → key_text k ≡ key_text l → k ≡ l
same_tag k l e = sym (tag_back k) ∙ ap tag_by e ∙ tag_back l

same_item : (f g : Item) → f.0 ≡ g.0 → f.1 ≡ g.1 → f ≡ g
same_item f g a b = ap (λ x. (x, f.1)) a ∙ ap (λ y. (g.0, y)) b

pub lf : Is Stop 10
lf = inr refl

pub space : Is Stop 32
space = inl refl

-- one field, and what follows it
pub field_once : (f g : Item) (x y : List ℕ) → Lacks Stop f.1 → Lacks Stop g.1 → EndsValue x → EndsValue y
    → more_text (f ∷ []) x ≡ more_text (g ∷ []) y → (f ≡ g) × (x ≡ y)
field_once f g [] y p q s t e = absurd (omega (arith, s))
field_once f g (b ∷ x) [] p q s t e = absurd (omega (arith, t))
field_once f g (b ∷ x) (d ∷ y) p q s t e =
    let w : field_text f (b ∷ x) ≡ field_text g (d ∷ y) = cc in
    let a = cut_once Equals (key_text f.0) (key_text g.0) 61 61 (f.1 ++ (b ∷ x)) (g.1 ++ (d ∷ y)) w (key_plain f.0) refl (key_plain g.0) refl in
    let v = cut_once Stop f.1 g.1 b d x y a.2 p s q t in
    let v1 = v.1 in
    (same_item f g (same_tag f.0 g.0 a.0) v.0, cc)

pub ends_more : (fs : List Item) (x : List ℕ) → EndsValue x → EndsValue (more_text fs x)
ends_more [] x s = s
ends_more (f ∷ fs) x s = space

-- equally many fields, and what follows them
pub fields_once : (fs gs : List Item) (x y : List ℕ) → length fs ≡ length gs → Plain fs → Plain gs → EndsValue x → EndsValue y
    → more_text fs x ≡ more_text gs y → (fs ≡ gs) × (x ≡ y)
fields_once [] [] x y n p q s t e = (refl, e)
fields_once [] (g ∷ gs) x y n p q s t e = absurd (omega (arith, n))
fields_once (f ∷ fs) [] x y n p q s t e = absurd (omega (arith, n))
fields_once (f ∷ fs) (g ∷ gs) x y n p q s t e =
    let one = field_once f g (more_text fs x) (more_text gs y) p.0 q.0 (ends_more fs x s) (ends_more gs y t) e in
    let more = fields_once fs gs x y (omega (arith, n)) p.1 q.1 s t one.1 in
    let one0 = one.0 in
    let more0 = more.0 in
    (cc, more.1)

-- all fields up to the LF
all_once : (fs gs : List Item) → Plain fs → Plain gs → more_text fs (10 ∷ []) ≡ more_text gs (10 ∷ []) → fs ≡ gs
all_once [] [] p q e = refl
all_once [] (g ∷ gs) p q e = let z : ◌≡◌ {A = ℕ} 10 32 = cc in absurd (omega (arith, z))
all_once (f ∷ fs) [] p q e = let z : ◌≡◌ {A = ℕ} 32 10 = cc in absurd (omega (arith, z))
all_once (f ∷ fs) (g ∷ gs) p q e =
    let one = field_once f g (more_text fs (10 ∷ [])) (more_text gs (10 ∷ [])) p.0 q.0 (ends_more fs (10 ∷ []) lf) (ends_more gs (10 ∷ []) lf) e in
    let more = all_once fs gs p.1 q.1 one.1 in
    let one0 = one.0 in
    cc

-- a line after a space
pub whole_line : (f : Item) (fs : List Item) → more_text (f ∷ fs) (10 ∷ []) ≡ 32 ∷ line_text (f ∷ fs)
whole_line f [] = refl
whole_line f (g ∷ gs) = ap (λ l. 32 ∷ field_text f l) (whole_line g gs)

-- a line has its fields in one way
pub line_once : (f g : Item) (fs gs : List Item) → Plain (f ∷ fs) → Plain (g ∷ gs) → line_text (f ∷ fs) ≡ line_text (g ∷ gs) → (f ∷ fs) ≡ (g ∷ gs)
line_once f g fs gs p q e = all_once (f ∷ fs) (g ∷ gs) p q (whole_line f fs ∙ ap (λ l. 32 ∷ l) e ∙ sym (whole_line g gs))
