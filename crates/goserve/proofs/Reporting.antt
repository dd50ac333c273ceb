-- The report of an input, from its faults.
use Rattle.std.proofs.Common.{◌≡◌, ◌≢◌, ℕ, ◌==◌, ◌↔◌, Bool, IsTrue, true, false, List, [], ◌∷◌, length, arith, sym, refl, ◌∙◌, ap, subst}
use Rattle.gs_syntax.specs.declared.token.Span.{Span}
use Rattle.gs_chunks.specs.Files.{HasFaults}
use Rattle.gs_rules.specs.declared.fault.Fault.{Fault}
use Rattle.gs_rules.specs.Faults.{form_faults, right_faults}
use Rattle.gs_rules.specs.Files.{declarations_of, lookup_of}
use Rattle.gs_rules.specs.Trees.{Declaration}
use Rattle.gs_syntax.specs.declared.token.Token.{Token}
use Rattle.goserve.specs.Answers.{AreFaults, IsWellFormed, of_form, of_rights, stdin}
use Rattle.goserve.specs.FirstForm.{IsFirstForm}

pub clean_is : (fs : List Fault) (b : Bool) → b ≡ (length fs == 0) → IsTrue b ↔ fs ≡ []
clean_is [] b e = (λ _. refl, λ _. e)
clean_is (f ∷ more) b e = grind (arith, e)

pub form_told : (input : List ℕ) (found : List (ℕ × Span)) (faults : List Fault) → HasFaults input found → (found ≢ []) → faults ≡ form_faults stdin found → AreFaults input faults
form_told input found faults (tree, h, same) some e = subst (AreFaults input) (sym (e ∙ ap (form_faults stdin) (sym same))) (of_form tree h (λ none. some (sym same ∙ none)))

pub none_found : (input : List ℕ) (found : List (ℕ × Span)) → HasFaults input found → true ≡ (length found == 0) → IsWellFormed input
none_found input [] h e = h
none_found input (f ∷ fs) h e = absurd (grind (arith, e))

pub some_found : (found : List (ℕ × Span)) → (length found == 0) ≡ false → found ≢ []
some_found found h none = let e = ap (λ l. length l == 0) none in absurd (cc)

pub rights_told : (input : List ℕ) (tokens : List Token) (ds : List Declaration) (faults : List Fault) → IsWellFormed input → IsFirstForm input tokens → ds ≡ declarations_of tokens →
    faults ≡ right_faults stdin (lookup_of ds) ds → AreFaults input faults
rights_told input tokens ds faults whole form d e = subst (AreFaults input) (sym (e ∙ ap (λ l. right_faults stdin (lookup_of l) l) d)) (of_rights tokens whole form)
