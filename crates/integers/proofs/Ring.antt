-- A ring solver for ℤ, by reflection: two expressions are equal at every integer if their difference normalises to the empty polynomial, which `refl` shows.
--     ring_at ρ a b refl : eval ρ a ≡ eval ρ b
--     ring 3 (λ x y z. ..) (λ x y z. ..) refl : (x y z : ℤ) → .. ≡ ..
-- Coefficients are native numbers, so their size costs nothing. Assumes nothing.
use mathlib.Core.Path.{◌≡◌, refl, sym, ◌∙◌, ap, ap₂}
use mathlib.Core.List.{List, [], ◌∷◌, ◌++◌}
use Prim.Native.Nat.{ℕ, zero, suc, compare, Ordering}
use lib.Dec.{T, compare_is_eq, eqb→eq}
use lib.IntN.{ℤ, pos, negsuc, neg_ℤ, ◌+ℤ◌, ◌*ℤ◌, +ℤ_assoc, +ℤ_idl, +ℤ_idr, zero-*ℤ, *ℤ-zero, neg_ℤ-+ℤ, *ℤ_comm}
use Rattle.integers.proofs.Laws.{*ℤ-assoc, *ℤ-distl, *ℤ-distr, *ℤ-left-comm, +ℤ-left-comm, neg-*ℤ, one-*ℤ, sub_zero_eq}

pub data Expr : Type 0 where
  var : ℕ → Expr
  con : ℤ → Expr
  ◌⊕◌ : Expr → Expr → Expr
  ◌⊗◌ : Expr → Expr → Expr
  ⊝◌ : Expr → Expr

infixl 60 ◌⊕◌ ◌⊖◌
infixl 70 ◌⊗◌
infix 80 ⊝◌
abbrev pub ◌⊖◌ : Expr → Expr → Expr
a ⊖ b = a ⊕ (⊝ b)

abbrev pub num : ℕ → Expr
num n = con (pos n)

abbrev pub at : List ℤ → ℕ → ℤ
at [] i = pos 0
at (x ∷ ρ) zero = x
at (x ∷ ρ) (suc i) = at ρ i

abbrev pub eval : List ℤ → Expr → ℤ
eval ρ (var i) = at ρ i
eval ρ (con z) = z
eval ρ (a ⊕ b) = eval ρ a +ℤ eval ρ b
eval ρ (a ⊗ b) = eval ρ a *ℤ eval ρ b
eval ρ (⊝ a) = neg_ℤ (eval ρ a)

-- ---- polynomials: terms in the order of their monomials, a monomial the sorted list of its variables
pub data Poly : Type 0 where
  nil : Poly
  term : ℤ → List ℕ → Poly → Poly

abbrev pub mono : List ℤ → List ℕ → ℤ
mono ρ [] = pos 1
mono ρ (i ∷ m) = at ρ i *ℤ mono ρ m

abbrev pub val : List ℤ → Poly → ℤ
val ρ nil = pos 0
val ρ (term c m p) = c *ℤ mono ρ m +ℤ val ρ p

abbrev pub pick : Ordering → List ℕ → List ℕ → List ℕ
pick Ordering.lt x y = x
pick Ordering.eq x y = x
pick Ordering.gt x y = y

abbrev pub ins : ℕ → List ℕ → List ℕ
ins i [] = i ∷ []
ins i (j ∷ m) = pick (compare i j) (i ∷ j ∷ m) (j ∷ ins i m)

abbrev pub join : List ℕ → List ℕ → List ℕ
join [] n = n
join (i ∷ m) n = ins i (join m n)

abbrev pub lex : Ordering → Ordering → Ordering
lex Ordering.lt o = Ordering.lt
lex Ordering.eq o = o
lex Ordering.gt o = Ordering.gt

abbrev pub cmp : List ℕ → List ℕ → Ordering
cmp [] [] = Ordering.eq
cmp [] (j ∷ n) = Ordering.lt
cmp (i ∷ m) [] = Ordering.gt
cmp (i ∷ m) (j ∷ n) = lex (compare i j) (cmp m n)

abbrev pub keep : ℤ → List ℕ → Poly → Poly
keep (pos zero) m p = p
keep (pos (suc k)) m p = term (pos (suc k)) m p
keep (negsuc k) m p = term (negsuc k) m p

abbrev pub put : Ordering → ℤ → List ℕ → ℤ → List ℕ → Poly → Poly → Poly
put Ordering.lt c m d n p q = term c m (term d n p)
put Ordering.eq c m d n p q = keep (c +ℤ d) n p
put Ordering.gt c m d n p q = term d n q

abbrev pub add_t : ℤ → List ℕ → Poly → Poly
add_t c m nil = term c m nil
add_t c m (term d n p) = put (cmp m n) c m d n p (add_t c m p)

abbrev pub plus : Poly → Poly → Poly
plus nil q = q
plus (term c m p) q = add_t c m (plus p q)

abbrev pub scale : ℤ → List ℕ → Poly → Poly
scale c m nil = nil
scale c m (term d n p) = add_t (c *ℤ d) (join m n) (scale c m p)

abbrev pub times : Poly → Poly → Poly
times nil q = nil
times (term c m p) q = plus (scale c m q) (times p q)

abbrev pub flip : Poly → Poly
flip nil = nil
flip (term c m p) = term (neg_ℤ c) m (flip p)

abbrev pub norm : Expr → Poly
norm (var i) = term (pos 1) (i ∷ []) nil
norm (con z) = keep z [] nil
norm (a ⊕ b) = plus (norm a) (norm b)
norm (a ⊗ b) = times (norm a) (norm b)
norm (⊝ a) = flip (norm a)

-- ---- each step keeps the value
module _ (ρ : List ℤ) where
  mono_pick : (o : Ordering) (x y : List ℕ) (v : ℤ) → mono ρ x ≡ v → mono ρ y ≡ v → mono ρ (pick o x y) ≡ v
  mono_pick Ordering.lt x y v p q = p
  mono_pick Ordering.eq x y v p q = p
  mono_pick Ordering.gt x y v p q = q

  mono_ins : (i : ℕ) (m : List ℕ) → mono ρ (ins i m) ≡ at ρ i *ℤ mono ρ m
  mono_ins i [] = refl
  mono_ins i (j ∷ m) = mono_pick (compare i j) (i ∷ j ∷ m) (j ∷ ins i m) (at ρ i *ℤ (at ρ j *ℤ mono ρ m)) refl (ap (λ t. at ρ j *ℤ t) (mono_ins i m) ∙ *ℤ-left-comm (at ρ j) (at ρ i) (mono ρ m))

  mono_join : (m n : List ℕ) → mono ρ (join m n) ≡ mono ρ m *ℤ mono ρ n
  mono_join [] n = sym (one-*ℤ (mono ρ n))
  mono_join (i ∷ m) n = mono_ins i (join m n) ∙ ap (λ t. at ρ i *ℤ t) (mono_join m n) ∙ sym (*ℤ-assoc (at ρ i) (mono ρ m) (mono ρ n))

  same_head : (i j : ℕ) (m n : List ℕ) (o o' : Ordering) → (T (compare_is_eq o) → i ≡ j) → (T (compare_is_eq o') → mono ρ m ≡ mono ρ n) → T (compare_is_eq (lex o o')) → at ρ i *ℤ mono ρ m ≡ at ρ j *ℤ mono ρ n
  same_head i j m n Ordering.lt o' f g t = absurd t
  same_head i j m n Ordering.eq o' f g t = ap₂ (λ (k : ℕ) u. at ρ k *ℤ u) (f tt) (g t)
  same_head i j m n Ordering.gt o' f g t = absurd t

  same : (m n : List ℕ) → T (compare_is_eq (cmp m n)) → mono ρ m ≡ mono ρ n
  same [] [] t = refl
  same [] (j ∷ n) t = absurd t
  same (i ∷ m) [] t = absurd t
  same (i ∷ m) (j ∷ n) t = same_head i j m n (compare i j) (cmp m n) (eqb→eq i j) (same m n) t

  val_keep : (c : ℤ) (m : List ℕ) (p : Poly) → val ρ (keep c m p) ≡ c *ℤ mono ρ m +ℤ val ρ p
  val_keep (pos zero) m p = sym (ap (λ t. t +ℤ val ρ p) (zero-*ℤ (mono ρ m)) ∙ +ℤ_idl (val ρ p))
  val_keep (pos (suc k)) m p = refl
  val_keep (negsuc k) m p = refl

  val_put : (o : Ordering) (c : ℤ) (m : List ℕ) (d : ℤ) (n : List ℕ) (p q : Poly) → (T (compare_is_eq o) → mono ρ m ≡ mono ρ n) → val ρ q ≡ c *ℤ mono ρ m +ℤ val ρ p → val ρ (put o c m d n p q) ≡ c *ℤ mono ρ m +ℤ (d *ℤ mono ρ n +ℤ val ρ p)
  val_put Ordering.lt c m d n p q f e = refl
  val_put Ordering.eq c m d n p q f e =
      val_keep (c +ℤ d) n p ∙ ap (λ t. t +ℤ val ρ p) (*ℤ-distr c d (mono ρ n) ∙ ap (λ t. c *ℤ t +ℤ d *ℤ mono ρ n) (sym (f tt))) ∙ +ℤ_assoc (c *ℤ mono ρ m) (d *ℤ mono ρ n) (val ρ p)
  val_put Ordering.gt c m d n p q f e = ap (λ t. d *ℤ mono ρ n +ℤ t) e ∙ +ℤ-left-comm (d *ℤ mono ρ n) (c *ℤ mono ρ m) (val ρ p)

  val_add_t : (c : ℤ) (m : List ℕ) (p : Poly) → val ρ (add_t c m p) ≡ c *ℤ mono ρ m +ℤ val ρ p
  val_add_t c m nil = refl
  val_add_t c m (term d n p) = val_put (cmp m n) c m d n p (add_t c m p) (same m n) (val_add_t c m p)

  val_plus : (p q : Poly) → val ρ (plus p q) ≡ val ρ p +ℤ val ρ q
  val_plus nil q = sym (+ℤ_idl (val ρ q))
  val_plus (term c m p) q = val_add_t c m (plus p q) ∙ ap (λ t. c *ℤ mono ρ m +ℤ t) (val_plus p q) ∙ sym (+ℤ_assoc (c *ℤ mono ρ m) (val ρ p) (val ρ q))

  swap_mul : (a b c d : ℤ) → (a *ℤ b) *ℤ (c *ℤ d) ≡ (a *ℤ c) *ℤ (b *ℤ d)
  swap_mul a b c d = *ℤ-assoc a b (c *ℤ d) ∙ ap (λ t. a *ℤ t) (*ℤ-left-comm b c d) ∙ sym (*ℤ-assoc a c (b *ℤ d))

  val_scale : (c : ℤ) (m : List ℕ) (p : Poly) → val ρ (scale c m p) ≡ (c *ℤ mono ρ m) *ℤ val ρ p
  val_scale c m nil = sym (*ℤ-zero (c *ℤ mono ρ m))
  val_scale c m (term d n p) =
      val_add_t (c *ℤ d) (join m n) (scale c m p) ∙ ap₂ ◌+ℤ◌ (ap (λ t. (c *ℤ d) *ℤ t) (mono_join m n) ∙ swap_mul c d (mono ρ m) (mono ρ n)) (val_scale c m p) ∙ sym (*ℤ-distl (c *ℤ mono ρ m) (d *ℤ mono ρ n) (val ρ p))

  val_times : (p q : Poly) → val ρ (times p q) ≡ val ρ p *ℤ val ρ q
  val_times nil q = sym (zero-*ℤ (val ρ q))
  val_times (term c m p) q = val_plus (scale c m q) (times p q) ∙ ap₂ ◌+ℤ◌ (val_scale c m q) (val_times p q) ∙ sym (*ℤ-distr (c *ℤ mono ρ m) (val ρ p) (val ρ q))

  val_flip : (p : Poly) → val ρ (flip p) ≡ neg_ℤ (val ρ p)
  val_flip nil = refl
  val_flip (term c m p) = ap₂ ◌+ℤ◌ (neg-*ℤ c (mono ρ m)) (val_flip p) ∙ sym (neg_ℤ-+ℤ (c *ℤ mono ρ m) (val ρ p))

  sound : (e : Expr) → eval ρ e ≡ val ρ (norm e)
  sound (var i) = sym (+ℤ_idr (pos 1 *ℤ (at ρ i *ℤ pos 1)) ∙ one-*ℤ (at ρ i *ℤ pos 1) ∙ *ℤ_comm (at ρ i) (pos 1) ∙ one-*ℤ (at ρ i))
  sound (con z) = sym (val_keep z [] nil ∙ +ℤ_idr (z *ℤ pos 1) ∙ *ℤ_comm z (pos 1) ∙ one-*ℤ z)
  sound (a ⊕ b) = ap₂ ◌+ℤ◌ (sound a) (sound b) ∙ sym (val_plus (norm a) (norm b))
  sound (a ⊗ b) = ap₂ ◌*ℤ◌ (sound a) (sound b) ∙ sym (val_times (norm a) (norm b))
  sound (⊝ a) = ap neg_ℤ (sound a) ∙ sym (val_flip (norm a))

  -- THE THEOREM
  pub ring_at : (a b : Expr) → norm (a ⊖ b) ≡ nil → eval ρ a ≡ eval ρ b
  ring_at a b e = sub_zero_eq (eval ρ a) (eval ρ b) (sound (a ⊖ b) ∙ ap (val ρ) e)

-- ---- with named variables: `ring 2 (λ x y. ..) (λ x y. ..) refl` is the law for every x and y

-- a function of n expressions
abbrev pub Fn : ℕ → Type 0
Fn zero = Expr
Fn (suc n) = Expr → Fn n

-- its expression, the variables being numbered from i
abbrev pub body : (n : ℕ) → ℕ → Fn n → Expr
body zero i e = e
body (suc n) i f = body n (suc i) (f (var i))

-- equal for every n further values
abbrev pub Always : ℕ → List ℤ → Expr → Expr → Type 0
Always zero ρ a b = eval ρ a ≡ eval ρ b
Always (suc n) ρ a b = (x : ℤ) → Always n (ρ ++ (x ∷ [])) a b

always : (n : ℕ) (ρ : List ℤ) (a b : Expr) → norm (a ⊖ b) ≡ nil → Always n ρ a b
always zero ρ a b e = ring_at ρ a b e
always (suc n) ρ a b e = λ x. always n (ρ ++ (x ∷ [])) a b e

pub ring : (n : ℕ) (f g : Fn n) → norm (body n 0 f ⊖ body n 0 g) ≡ nil → Always n [] (body n 0 f) (body n 0 g)
ring n f g e = always n [] (body n 0 f) (body n 0 g) e
