-- The table of predeclared names is looked up part by part.
use Rattle.std.proofs.Common.{◌≡◌, ℕ, Bool, true, false, List, [], ◌∷◌, ◌++◌, Option, Some, None, bytes_eq, if◌then◌else◌, refl, ap, sym, ◌∙◌}
use Rattle.gs_terms.specs.declared.predeclared.Known.{Known}
use Rattle.gs_terms.specs.Universe.{Table, EachCounts, lookup, table, signed_integers, unsigned_integers, other_types, constants, collection_functions, other_functions}

abbrev first : Option Known → Option Known → Option Known
first (Some k) o = Some k
first None o = o

first_if : (b : Bool) (k : Known) (x y : Option Known) → (if b then Some k else first x y) ≡ first (if b then Some k else x) y
first_if true k x y = refl
first_if false k x y = refl

lookup-append : (xs ys : Table) (n : List ℕ) → lookup (xs ++ ys) n ≡ first (lookup xs n) (lookup ys n)
lookup-append [] ys n = refl
lookup-append (x ∷ xs) ys n =
    ap (λ o. if bytes_eq n x.0 then Some x.1 else o) (lookup-append xs ys n) ∙ first_if (bytes_eq n x.0) x.1 (lookup xs n) (lookup ys n)

-- an answer about the bytes of a text is one about the text
pub at : (part : Table) (n m : List ℕ) (r o : Option Known) → m ≡ n → r ≡ lookup part m → r ≡ o → lookup part n ≡ o
at part n m r o same is was = ap (lookup part) (sym same) ∙ sym is ∙ was

module _ (n : List ℕ) where
  by_parts : lookup table n ≡ first (first (first (first (first (lookup signed_integers n) (lookup unsigned_integers n)) (lookup other_types n)) (lookup constants n)) (lookup collection_functions n)) (lookup other_functions n)
  unfolding table
  by_parts =
      lookup-append (signed_integers ++ unsigned_integers ++ other_types ++ constants ++ collection_functions) other_functions n
      ∙ ap (λ o. first o (lookup other_functions n)) (lookup-append (signed_integers ++ unsigned_integers ++ other_types ++ constants) collection_functions n)
      ∙ ap (λ o. first (first o (lookup collection_functions n)) (lookup other_functions n)) (lookup-append (signed_integers ++ unsigned_integers ++ other_types) constants n)
      ∙ ap (λ o. first (first (first o (lookup constants n)) (lookup collection_functions n)) (lookup other_functions n)) (lookup-append (signed_integers ++ unsigned_integers) other_types n)
      ∙ ap (λ o. first (first (first (first o (lookup other_types n)) (lookup constants n)) (lookup collection_functions n)) (lookup other_functions n)) (lookup-append signed_integers unsigned_integers n)

  abbrev parts : Option Known → Option Known → Option Known → Option Known → Option Known → Option Known → Option Known
  parts a b c d e f = first (first (first (first (first a b) c) d) e) f

  pub in_1 : (k : Known) → lookup signed_integers n ≡ Some k → Some k ≡ lookup table n
  in_1 k a = sym (by_parts ∙ λ i. parts (a i) (lookup unsigned_integers n) (lookup other_types n) (lookup constants n) (lookup collection_functions n) (lookup other_functions n))

  pub in_2 : (k : Known) → lookup signed_integers n ≡ None → lookup unsigned_integers n ≡ Some k → Some k ≡ lookup table n
  in_2 k a b = sym (by_parts ∙ λ i. parts (a i) (b i) (lookup other_types n) (lookup constants n) (lookup collection_functions n) (lookup other_functions n))

  pub in_3 : (k : Known) → lookup signed_integers n ≡ None → lookup unsigned_integers n ≡ None → lookup other_types n ≡ Some k → Some k ≡ lookup table n
  in_3 k a b c = sym (by_parts ∙ λ i. parts (a i) (b i) (c i) (lookup constants n) (lookup collection_functions n) (lookup other_functions n))

  pub in_4 : (k : Known) → lookup signed_integers n ≡ None → lookup unsigned_integers n ≡ None → lookup other_types n ≡ None →
      lookup constants n ≡ Some k → Some k ≡ lookup table n
  in_4 k a b c d = sym (by_parts ∙ λ i. parts (a i) (b i) (c i) (d i) (lookup collection_functions n) (lookup other_functions n))

  pub in_5 : (k : Known) → lookup signed_integers n ≡ None → lookup unsigned_integers n ≡ None → lookup other_types n ≡ None →
      lookup constants n ≡ None → lookup collection_functions n ≡ Some k → Some k ≡ lookup table n
  in_5 k a b c d e = sym (by_parts ∙ λ i. parts (a i) (b i) (c i) (d i) (e i) (lookup other_functions n))

  pub in_6 : (o : Option Known) → lookup signed_integers n ≡ None → lookup unsigned_integers n ≡ None → lookup other_types n ≡ None →
      lookup constants n ≡ None → lookup collection_functions n ≡ None → lookup other_functions n ≡ o → o ≡ lookup table n
  in_6 o a b c d e f = sym (by_parts ∙ λ i. parts (a i) (b i) (c i) (d i) (e i) (f i))

-- no name stands twice
pub each_counts : EachCounts table table
unfolding table
each_counts = (refl, (refl, (refl, (refl, (refl, (refl, (refl, (refl, (refl, (refl, (refl, (refl, (refl, (refl, (refl, (refl, (refl, (refl, (refl, (refl, (refl, (refl, (refl, (refl, (refl, (refl, (refl, (refl, (refl, (refl, (refl, (refl, (refl, (refl, (refl, (refl, (refl, (refl, (refl, tt)))))))))))))))))))))))))))))))))))))))
