-- What the plain grammar has as a part of an expression stands, or something longer stands there.
use Rattle.std.proofs.Common.{◌≡◌, ℕ, zero, suc, ◌<◌, ◌≤◌, max, Bool, true, false, List, [], ◌∷◌, length, refl, arith, Option, Some, None}
use Rattle.gs_syntax.specs.declared.token.Span.{Span}
use Rattle.gs_syntax.specs.declared.token.Token.{Token}
use Rattle.gs_syntax.specs.declared.token.Operator.TheVariants as mark
use Rattle.gs_grammar.specs.declared.trees.Expr.{Expr}
use Rattle.gs_grammar.specs.declared.trees.Expr.TheVariants as ex
use Rattle.gs_grammar.specs.declared.trees.Suffix.{Suffix}
use Rattle.gs_grammar.specs.Front.{IsMark, IsFront, operator, is_sign, is_binary}
use Rattle.gs_grammar.specs.Parts.{Found, suffixed, binary}
use Rattle.gs_grammar.specs.Grammar as g
use Rattle.gs_grammar.specs.Plain as p
use Rattle.gs_grammar.specs.Reference.{row}
use Rattle.gs_grammar.proofs.Common.{Ends, After, length-Ends, length-After}
use Rattle.gs_grammar.proofs.Afters.{After-suffix, After-expr, After-operand, Ends-suffixes, Ends-operands}
use Rattle.gs_grammar.proofs.Fits.{Fits, absent-suffix, absent-operand}
use Rattle.gs_grammar.proofs.Sound.{sound}
use Rattle.gs_grammar.proofs.Begins.{Goes, goes-up, level-goes, level-not}
use Rattle.gs_grammar.proofs.Plainly.{ahead}
use Rattle.gs_grammar.proofs.Decides.{HasSuffix, suffix-then-goes}

pub shorter : {n : ℕ} {s u : List Token} → length s ≤ n → After s u → length u ≤ n
shorter k a = omega (arith, k, length-After a)

pub within : {n : ℕ} {s u : List Token} → length s ≤ n → Ends s u → length u ≤ n
within k a = omega (arith, k, length-Ends a)

-- what the plain grammar has stands, or something longer stands and a token that goes on follows
pub data Better {A : Type 0} (R : A → List Token → ℕ → Type 0) (G : List Token → Type 0) (t : A) (r : List Token) (d : ℕ) : Type 0 where
  same : R t r d → Better R G t r d
  longer : {u : A} {v : List Token} {c : ℕ} → R u v c → length v < length r → G r → Better R G t r d

pub settle : {A : Type 0} {R : A → List Token → ℕ → Type 0} {G : List Token → Type 0} {t : A} {r : List Token} {d : ℕ} → Better R G t r d → (G r → ⊥) → R t r d
settle (Better.same h) f = h
settle (Better.longer h l c) f = absurd (f c)

module _ (S : g.Part → List Token → List Token → Type 0) (n : ℕ) (F : Fits S n) where
  abbrev pub Suffixes-better : List Token → List Suffix → List Token → ℕ → Type 0
  Suffixes-better s t r d = Better (λ u v c. g.AreSuffixes S u s v c) (HasSuffix S) t r d

  abbrev pub Primary-better : Bool → List Token → Expr → List Token → ℕ → Type 0
  Primary-better h s t r d = Better (λ u v c. g.IsPrimary S h u s v c) (HasSuffix S) t r d

  abbrev pub Unary-better : Bool → Bool → List Token → Expr → List Token → ℕ → Type 0
  Unary-better h w s t r d = Better (λ u v c. g.IsUnary S h w u s v c) (Goes 0) t r d

  abbrev pub Expr-better : ℕ → Bool → Bool → List Token → Expr → List Token → ℕ → Type 0
  Expr-better m h w s t r d = Better (λ u v c. g.IsExpr S m h w u s v c) (Goes m) t r d

  abbrev pub Operand-better : ℕ → Bool → List Token → Token × Expr → List Token → ℕ → Type 0
  Operand-better m h s t r d = Better (λ u v c. g.IsOperand S m h u s v c) (Goes m) t r d

  abbrev pub Operands-better : ℕ → Bool → List Token → List (Token × Expr) → List Token → ℕ → Type 0
  Operands-better m h s t r d = Better (λ u v c. g.AreOperands S m h u s v c) (Goes (suc m)) t r d

  -- ---- suffixes stand everywhere, and so do operands
  pub suffixes-by : (b : ℕ) (u : List Token) → length u < n → ((f : Found Suffix) → length f.rest < length u → (xs : List Suffix) × (v : List Token) × (d : ℕ) × g.AreSuffixes S xs f.rest v d) → (o : Option (Found Suffix)) → (row u).suffix ≡ o → (xs : List Suffix) × (v : List Token) × (d : ℕ) × g.AreSuffixes S xs u v d
  suffixes-by b u l more None e = ([], u, 0, g.AreSuffixes.no_suffixes (absent-suffix S n F u l e))
  suffixes-by b u l more (Some f) e =
      let h = (sound S n F u (omega (arith, l))).suffix f e in
      let m = more f (length-After (After-suffix h)) in
      (f.tree ∷ m.0, m.1, max f.depth m.2, g.AreSuffixes.more_suffixes h m.3)

  pub some-suffixes : (b : ℕ) (u : List Token) → length u ≤ b → length u < n → (xs : List Suffix) × (v : List Token) × (d : ℕ) × g.AreSuffixes S xs u v d
  some-suffixes zero u k l = suffixes-by 0 u l (λ f m. absurd (omega (arith, k, m))) (row u).suffix refl
  some-suffixes (suc b) u k l = suffixes-by b u l (λ f m. some-suffixes b f.rest (omega (arith, k, m)) (omega (arith, l, m))) (row u).suffix refl

  pub operands-by : (m : ℕ) (h : Bool) (u : List Token) → length u < n → ((f : Found (Token × Expr)) → length f.rest < length u → (xs : List (Token × Expr)) × (v : List Token) × (d : ℕ) × g.AreOperands S m h xs f.rest v d) → (o : Option (Found (Token × Expr))) → (row u).operand m h ≡ o → (xs : List (Token × Expr)) × (v : List Token) × (d : ℕ) × g.AreOperands S m h xs u v d
  operands-by m h u l more None e = ([], u, 0, g.AreOperands.no_operands (absent-operand S n F m h u l e))
  operands-by m h u l more (Some f) e =
      let q = (sound S n F u (omega (arith, l))).operand m h f e in
      let y = more f (length-After (After-operand q)) in
      (f.tree ∷ y.0, y.1, max f.depth y.2, g.AreOperands.more_operands q y.3)

  pub some-operands : (b m : ℕ) (h : Bool) (u : List Token) → length u ≤ b → length u < n → (xs : List (Token × Expr)) × (v : List Token) × (d : ℕ) × g.AreOperands S m h xs u v d
  some-operands zero m h u k l = operands-by m h u l (λ f q. absurd (omega (arith, k, q))) ((row u).operand m h) refl
  some-operands (suc b) m h u k l = operands-by m h u l (λ f q. some-operands b m h f.rest (omega (arith, k, q)) (omega (arith, l, q))) ((row u).operand m h) refl

  pub stop-by : {xs : List Suffix} {u v : List Token} {d : ℕ} → g.AreSuffixes S xs u v d → Suffixes-better u [] u 0
  stop-by (g.AreSuffixes.no_suffixes h1) = Better.same (g.AreSuffixes.no_suffixes h1)
  stop-by (g.AreSuffixes.more_suffixes h1 h2) = Better.longer (g.AreSuffixes.more_suffixes h1 h2) (omega (arith, length-After (After-suffix h1), length-Ends (Ends-suffixes h2))) (HasSuffix.has_suffix h1)

  pub operand-goes : {m : ℕ} {h : Bool} {x : Token × Expr} {u v : List Token} {d : ℕ} → g.IsOperand S m h x u v d → Goes (suc m) u
  operand-goes (g.IsOperand.operand h1 h2) = level-goes h1

  pub stop-operands-by : {m : ℕ} {h : Bool} {xs : List (Token × Expr)} {u v : List Token} {d : ℕ} → g.AreOperands S m h xs u v d → Operands-better m h u [] u 0
  stop-operands-by (g.AreOperands.no_operands h1) = Better.same (g.AreOperands.no_operands h1)
  stop-operands-by (g.AreOperands.more_operands h1 h2) = Better.longer (g.AreOperands.more_operands h1 h2) (omega (arith, length-After (After-operand h1), length-Ends (Ends-operands h2))) (operand-goes h1)

  -- ---- parts put together
  pub suffixes-join : {x : Suffix} {xs : List Suffix} {s s1 r : List Token} {c d : ℕ} → g.IsSuffix S x s s1 c → Suffixes-better s1 xs r d → Suffixes-better s (x ∷ xs) r (max c d)
  suffixes-join h (Better.same q) = Better.same (g.AreSuffixes.more_suffixes h q)
  suffixes-join h (Better.longer q l c) = Better.longer (g.AreSuffixes.more_suffixes h q) l c

  pub primary-join : {h : Bool} {t : Expr} {xs : List Suffix} {s s1 r : List Token} {c d : ℕ} → g.IsHead S h t s s1 c → Suffixes-better s1 xs r d → Primary-better h s (suffixed t xs) r (max c d)
  primary-join h (Better.same q) = Better.same (g.IsPrimary.primary h q)
  primary-join h (Better.longer q l c) = Better.longer (g.IsPrimary.primary h q) l c

  pub bare-join : {h w : Bool} {t : Expr} {s r : List Token} {d : ℕ} → Primary-better h s t r d → Unary-better h w s t r d
  bare-join (Better.same q) = Better.same (g.IsUnary.bare_primary q)
  bare-join (Better.longer q l c) = Better.longer (g.IsUnary.bare_primary q) l (suffix-then-goes S c)

  pub signed-join : {h w : Bool} {x : Token} {t : Expr} {s s1 r : List Token} {d : ℕ} → IsFront is_sign x s s1 → Unary-better h false s1 t r d → Unary-better h w s (ex.Prefixed x t) r (suc d)
  signed-join k (Better.same q) = Better.same (g.IsUnary.signed k q)
  signed-join k (Better.longer q l c) = Better.longer (g.IsUnary.signed k q) l c

  pub starred-join : {h w : Bool} {z : Span} {t : Expr} {s s1 r : List Token} {d : ℕ} → IsMark mark.Star z s s1 → Unary-better h w s1 t r d → Unary-better h w s (ex.Prefixed (operator mark.Star z) t) r (suc d)
  starred-join k (Better.same q) = Better.same (g.IsUnary.starred k q)
  starred-join k (Better.longer q l c) = Better.longer (g.IsUnary.starred k q) l c

  pub first-join : {h w : Bool} {z : Span} {t : Expr} {s s1 r : List Token} {d : ℕ} → IsMark mark.Arrow z s s1 → w ≡ true → g.Lacks S g.Part.a_received s1 → Unary-better h false s1 t r d → Unary-better h w s (ex.Prefixed (operator mark.Arrow z) t) r (suc d)
  first-join k e y (Better.same q) = Better.same (g.IsUnary.receive_first k e y q)
  first-join k e y (Better.longer q l c) = Better.longer (g.IsUnary.receive_first k e y q) l c

  pub receive-join : {h w : Bool} {z : Span} {t : Expr} {s s1 r : List Token} {d : ℕ} → IsMark mark.Arrow z s s1 → w ≡ false → Unary-better h false s1 t r d → Unary-better h w s (ex.Prefixed (operator mark.Arrow z) t) r (suc d)
  receive-join k e (Better.same q) = Better.same (g.IsUnary.receive k e q)
  receive-join k e (Better.longer q l c) = Better.longer (g.IsUnary.receive k e q) l c

  pub lone-join : {h w : Bool} {t : Expr} {s r : List Token} {d : ℕ} → Unary-better h w s t r d → Expr-better 0 h w s t r d
  lone-join (Better.same q) = Better.same (g.IsExpr.lone q)
  lone-join (Better.longer q l c) = Better.longer (g.IsExpr.lone q) l c

  pub level-same : {m : ℕ} {h w : Bool} {t : Expr} {os : List (Token × Expr)} {s s1 r : List Token} {c d : ℕ} → g.IsExpr S m h w t s s1 c → Operands-better m h s1 os r d → Expr-better (suc m) h w s (binary t os) r (max c d)
  level-same k (Better.same q) = Better.same (g.IsExpr.level k q)
  level-same k (Better.longer q l c) = Better.longer (g.IsExpr.level k q) l c

  -- the first part is longer than in the plain tree: then no operand of the plain tree follows
  pub level-longer : (t : Expr) (c : ℕ) {m : ℕ} {h w : Bool} {u : Expr} {os : List (Token × Expr)} {s s1 r v : List Token} {b d : ℕ} → length s ≤ n → g.IsExpr S m h w u s v b → length v < length s1 → Goes m s1 → p.ArePlainOperands (ahead S) m h os s1 r d → Expr-better (suc m) h w s (binary t os) r (max c d)
  level-longer t c {m} {h} {v = v} k q l y p.ArePlainOperands.plain_no_operands =
      let z = some-operands n m h v (omega (arith, k, length-After (After-expr q))) (omega (arith, k, length-After (After-expr q))) in
      Better.longer (g.IsExpr.level q z.3) (omega (arith, l, length-Ends (Ends-operands z.3))) (goes-up y)
  level-longer t c k q l y (p.ArePlainOperands.plain_more_operands (p.IsPlainOperand.plain_operand h1 h2) h3) = absurd (level-not h1 y)

  pub level-join : {m : ℕ} {h w : Bool} {t : Expr} {os : List (Token × Expr)} {s s1 r : List Token} {c d : ℕ} → length s ≤ n → Expr-better m h w s t s1 c → p.ArePlainOperands (ahead S) m h os s1 r d → (length s1 < n → Operands-better m h s1 os r d) → Expr-better (suc m) h w s (binary t os) r (max c d)
  level-join k (Better.same q) o f = level-same q (f (omega (arith, k, length-After (After-expr q))))
  level-join {t = t} {c = c} k (Better.longer q l y) o f = level-longer t c k q l y o

  pub operand-join : {m : ℕ} {h : Bool} {x : Token} {t : Expr} {s s1 r : List Token} {d : ℕ} → IsFront (is_binary m) x s s1 → Expr-better m h false s1 t r d → Operand-better m h s (x, t) r d
  operand-join k (Better.same q) = Better.same (g.IsOperand.operand k q)
  operand-join k (Better.longer q l c) = Better.longer (g.IsOperand.operand k q) l c

  pub operands-same : {m : ℕ} {h : Bool} {x : Token × Expr} {xs : List (Token × Expr)} {s s1 r : List Token} {c d : ℕ} → g.IsOperand S m h x s s1 c → Operands-better m h s1 xs r d → Operands-better m h s (x ∷ xs) r (max c d)
  operands-same k (Better.same q) = Better.same (g.AreOperands.more_operands k q)
  operands-same k (Better.longer q l c) = Better.longer (g.AreOperands.more_operands k q) l c

  pub operands-longer : (x : Token × Expr) (c : ℕ) {m : ℕ} {h : Bool} {y : Token × Expr} {xs : List (Token × Expr)} {s s1 r v : List Token} {b d : ℕ} → length s ≤ n → g.IsOperand S m h y s v b → length v < length s1 → Goes m s1 → p.ArePlainOperands (ahead S) m h xs s1 r d → Operands-better m h s (x ∷ xs) r (max c d)
  operands-longer x c {m} {h} {v = v} k q l y p.ArePlainOperands.plain_no_operands =
      let z = some-operands n m h v (omega (arith, k, length-After (After-operand q))) (omega (arith, k, length-After (After-operand q))) in
      Better.longer (g.AreOperands.more_operands q z.3) (omega (arith, l, length-Ends (Ends-operands z.3))) (goes-up y)
  operands-longer x c k q l y (p.ArePlainOperands.plain_more_operands (p.IsPlainOperand.plain_operand h1 h2) h3) = absurd (level-not h1 y)

  pub operands-join : {m : ℕ} {h : Bool} {x : Token × Expr} {xs : List (Token × Expr)} {s s1 r : List Token} {c d : ℕ} → length s ≤ n → Operand-better m h s x s1 c → p.ArePlainOperands (ahead S) m h xs s1 r d → (length s1 < n → Operands-better m h s1 xs r d) → Operands-better m h s (x ∷ xs) r (max c d)
  operands-join k (Better.same q) o f = operands-same q (f (omega (arith, k, length-After (After-operand q))))
  operands-join {x = x} {c = c} k (Better.longer q l y) o f = operands-longer x c k q l y o
