-- How the logic stores a type: no contract speaks of it.
use Rattle.std.proofs.Common.{◌≡◌, ℕ, List, refl, ap, arith}
use Rattle.std.specs.Coded.{Coded, coded_ℕ, coded_ℤ, coded_bool, coded_list}
use base.Stored.{Gv, gnil, gnum, gcons}
use Rattle.gs_terms.specs.contracts.symbol.Symbol as symbol
use Rattle.gs_terms.specs.contracts.symbol.Place as place
use Rattle.gs_terms.specs.contracts.kinds.Basic as basics
use Rattle.gs_terms.specs.contracts.kinds.Kind as kinds
use Rattle.gs_terms.specs.contracts.kinds.Dir as dirs
use Rattle.gs_terms.specs.Term.{Term, Terms, Fields, Methods, invalid, basic, named, pointer, slice, array, map, chan, struct, func, interface, tuple, untyped, nil, no_terms, a_term, no_fields, a_field, no_methods, a_method}

abbrev text : Coded (List ℕ)
text = coded_list coded_ℕ

abbrev mutual
  pub term_code : Term → Gv
  term_code invalid = gcons (gnum 0) gnil
  term_code (basic a) = gcons (gnum 1) (basics.the_row.coded.code a)
  term_code (named a) = gcons (gnum 2) (symbol.the_row.coded.code a)
  term_code (pointer a) = gcons (gnum 3) (term_code a)
  term_code (slice a) = gcons (gnum 4) (term_code a)
  term_code (array a b) = gcons (gnum 5) (gcons (coded_ℤ.code a) (term_code b))
  term_code (map a b) = gcons (gnum 6) (gcons (term_code a) (term_code b))
  term_code (chan a b) = gcons (gnum 7) (gcons (dirs.the_row.coded.code a) (term_code b))
  term_code (struct a) = gcons (gnum 8) (fields_code a)
  term_code (func a b c) = gcons (gnum 9) (gcons (terms_code a) (gcons (terms_code b) (coded_bool.code c)))
  term_code (interface a) = gcons (gnum 10) (methods_code a)
  term_code (tuple a) = gcons (gnum 11) (terms_code a)
  term_code (untyped a) = gcons (gnum 12) (kinds.the_row.coded.code a)
  term_code nil = gcons (gnum 13) gnil

  pub terms_code : Terms → Gv
  terms_code no_terms = gnil
  terms_code (a_term t ts) = gcons (term_code t) (terms_code ts)

  pub fields_code : Fields → Gv
  fields_code no_fields = gnil
  fields_code (a_field n q e g t l fs) = gcons (gcons (text.code n) (gcons (text.code q) (gcons (coded_bool.code e) (gcons (text.code g) (gcons (term_code t) (place.the_row.coded.code l)))))) (fields_code fs)

  pub methods_code : Methods → Gv
  methods_code no_methods = gnil
  methods_code (a_method n q e t l d ms) = gcons (gcons (text.code n) (gcons (text.code q) (gcons (coded_bool.code e) (gcons (term_code t) (gcons (place.the_row.coded.code l) (text.code d)))))) (methods_code ms)

abbrev lead : Gv → ℕ
lead gnil = 0
lead (gnum n) = 0
lead (gcons gnil b) = 0
lead (gcons (gnum n) b) = n
lead (gcons (gcons a c) b) = 0

abbrev head : Gv → Gv
head gnil = gnil
head (gnum n) = gnil
head (gcons a b) = a

abbrev tail : Gv → Gv
tail gnil = gnil
tail (gnum n) = gnil
tail (gcons a b) = b

mutual
  pub term_inj : (x y : Term) → term_code x ≡ term_code y → x ≡ y
  term_inj invalid invalid p = refl
  term_inj invalid _ p = absurd (omega (arith, ap lead p))
  term_inj (basic a) (basic a') p = λ i. basic (basics.the_row.coded.inj a a' (ap (λ g. tail g) p) i)
  term_inj (basic a) _ p = absurd (omega (arith, ap lead p))
  term_inj (named a) (named a') p = λ i. named (symbol.the_row.coded.inj a a' (ap (λ g. tail g) p) i)
  term_inj (named a) _ p = absurd (omega (arith, ap lead p))
  term_inj (pointer a) (pointer a') p = λ i. pointer (term_inj a a' (ap (λ g. tail g) p) i)
  term_inj (pointer a) _ p = absurd (omega (arith, ap lead p))
  term_inj (slice a) (slice a') p = λ i. slice (term_inj a a' (ap (λ g. tail g) p) i)
  term_inj (slice a) _ p = absurd (omega (arith, ap lead p))
  term_inj (array a b) (array a' b') p = λ i. array (coded_ℤ.inj a a' (ap (λ g. head (tail g)) p) i) (term_inj b b' (ap (λ g. tail (tail g)) p) i)
  term_inj (array a b) _ p = absurd (omega (arith, ap lead p))
  term_inj (map a b) (map a' b') p = λ i. map (term_inj a a' (ap (λ g. head (tail g)) p) i) (term_inj b b' (ap (λ g. tail (tail g)) p) i)
  term_inj (map a b) _ p = absurd (omega (arith, ap lead p))
  term_inj (chan a b) (chan a' b') p = λ i. chan (dirs.the_row.coded.inj a a' (ap (λ g. head (tail g)) p) i) (term_inj b b' (ap (λ g. tail (tail g)) p) i)
  term_inj (chan a b) _ p = absurd (omega (arith, ap lead p))
  term_inj (struct a) (struct a') p = λ i. struct (fields_inj a a' (ap (λ g. tail g) p) i)
  term_inj (struct a) _ p = absurd (omega (arith, ap lead p))
  term_inj (func a b c) (func a' b' c') p = λ i. func (terms_inj a a' (ap (λ g. head (tail g)) p) i) (terms_inj b b' (ap (λ g. head (tail (tail g))) p) i) (coded_bool.inj c c' (ap (λ g. tail (tail (tail g))) p) i)
  term_inj (func a b c) _ p = absurd (omega (arith, ap lead p))
  term_inj (interface a) (interface a') p = λ i. interface (methods_inj a a' (ap (λ g. tail g) p) i)
  term_inj (interface a) _ p = absurd (omega (arith, ap lead p))
  term_inj (tuple a) (tuple a') p = λ i. tuple (terms_inj a a' (ap (λ g. tail g) p) i)
  term_inj (tuple a) _ p = absurd (omega (arith, ap lead p))
  term_inj (untyped a) (untyped a') p = λ i. untyped (kinds.the_row.coded.inj a a' (ap (λ g. tail g) p) i)
  term_inj (untyped a) _ p = absurd (omega (arith, ap lead p))
  term_inj nil nil p = refl
  term_inj nil _ p = absurd (omega (arith, ap lead p))

  pub terms_inj : (x y : Terms) → terms_code x ≡ terms_code y → x ≡ y
  terms_inj no_terms no_terms p = refl
  terms_inj no_terms (a_term t ts) p = (cc)
  terms_inj (a_term t ts) no_terms p = (cc)
  terms_inj (a_term t ts) (a_term t' ts') p = λ i. a_term (term_inj t t' (ap (λ g. head g) p) i) (terms_inj ts ts' (ap tail p) i)

  pub fields_inj : (x y : Fields) → fields_code x ≡ fields_code y → x ≡ y
  fields_inj no_fields no_fields p = refl
  fields_inj no_fields (a_field n q e g t l fs) p = (cc)
  fields_inj (a_field n q e g t l fs) no_fields p = (cc)
  fields_inj (a_field n q e g t l fs) (a_field n' q' e' g' t' l' fs') p = λ i. a_field (text.inj n n' (ap (λ g. head (head g)) p) i) (text.inj q q' (ap (λ g. head (tail (head g))) p) i) (coded_bool.inj e e' (ap (λ g. head (tail (tail (head g)))) p) i) (text.inj g g' (ap (λ g. head (tail (tail (tail (head g))))) p) i) (term_inj t t' (ap (λ g. head (tail (tail (tail (tail (head g)))))) p) i) (place.the_row.coded.inj l l' (ap (λ g. tail (tail (tail (tail (tail (head g)))))) p) i) (fields_inj fs fs' (ap tail p) i)

  pub methods_inj : (x y : Methods) → methods_code x ≡ methods_code y → x ≡ y
  methods_inj no_methods no_methods p = refl
  methods_inj no_methods (a_method n q e t l d ms) p = (cc)
  methods_inj (a_method n q e t l d ms) no_methods p = (cc)
  methods_inj (a_method n q e t l d ms) (a_method n' q' e' t' l' d' ms') p = λ i. a_method (text.inj n n' (ap (λ g. head (head g)) p) i) (text.inj q q' (ap (λ g. head (tail (head g))) p) i) (coded_bool.inj e e' (ap (λ g. head (tail (tail (head g)))) p) i) (term_inj t t' (ap (λ g. head (tail (tail (tail (head g))))) p) i) (place.the_row.coded.inj l l' (ap (λ g. head (tail (tail (tail (tail (head g)))))) p) i) (text.inj d d' (ap (λ g. tail (tail (tail (tail (tail (head g)))))) p) i) (methods_inj ms ms' (ap tail p) i)

abbrev pub coded_term : Coded Term
coded_term = record { code = term_code; inj = term_inj }
