-- A text has no more lines than bytes, and what is concluded of them.
use Rattle.std.proofs.Common.{◌≡◌, ℕ, suc, ◌+◌, ◌<◌, ◌≤◌, Bool, true, false, ◌==◌, cond, List, [], ◌∷◌, length, map, refl, sym, ap, ◌∙◌, arith, subst, Vec, Global, IfOk}
use Rattle.std.specs.declared.alloc.AllocError.{AllocError}
use Rattle.std.proofs.lemmas.List.{length-map}
use Rattle.std.specs.Prelude.{not, Option, Some, None, Result, Ok, Err}
use Rattle.std.specs.Borrow.{Bor}
use Rattle.std.specs.Option.{is_some, option_map}
use Rattle.gs_gomod.specs.declared.read.Mod.{Mod}
use Rattle.gs_gomod.specs.declared.read.ModFault.{ModFault}
use Rattle.gs_gomod.specs.declared.read.ModFault.TheVariants.{Line, NoMemory}
use Rattle.gs_gomod.specs.declared.read.Found.{Found}
use Rattle.gs_gomod.specs.Forms.{first_wrong, stays_open, module_of, put_all, forms_in, forms_of, or_else}
use Rattle.gs_gomod.specs.Steps.{Finds, Concludes, HasReadText, bad_in}
use Rattle.gs_gomod.specs.Files.{bad_line}
use Rattle.std.specs.List.{slice_split, onto_first}
use Rattle.std.specs.Str.Lines.{lines, lines_of_parts, strip_carriage_return}
use Rattle.std.proofs.lemmas.List.Splits.{slice_split-cons_yes, slice_split-cons_no}

at_most_one : (b : Bool) (x : List ℕ) (k : ℕ) → length (cond b [] (x ∷ [])) ≤ k + 1
at_most_one true x k = omega arith
at_most_one false x k = omega arith

ended : (parts : List (List ℕ)) → length (lines_of_parts ([] ∷ parts)) ≤ length (lines_of_parts parts) + 1
ended [] = omega arith
ended (y ∷ more) = omega arith

longer : (c : ℕ) (parts : List (List ℕ)) → length (lines_of_parts (onto_first c parts)) ≤ length (lines_of_parts parts) + 1
longer c [] = at_most_one (length (c ∷ []) == 0) (c ∷ []) 0
longer c (x ∷ []) = at_most_one (length (c ∷ x) == 0) (c ∷ x) (length (lines_of_parts (x ∷ [])))
longer c (x ∷ y ∷ more) = omega arith

line_case : (c : ℕ) (cs : List ℕ) (b : Bool) → (c == 10) ≡ b → length (lines (c ∷ cs)) ≤ length (lines cs) + 1
line_case c cs true h = subst (λ ps. length (lines_of_parts ps) ≤ length (lines cs) + 1) (sym (slice_split-cons_yes (λ b. b == 10) c cs h)) (ended (slice_split (λ b. b == 10) cs))
line_case c cs false h = subst (λ ps. length (lines_of_parts ps) ≤ length (lines cs) + 1) (sym (slice_split-cons_no (λ b. b == 10) c cs h)) (longer c (slice_split (λ b. b == 10) cs))

pub few_lines : (bs : List ℕ) → length (lines bs) ≤ length bs
few_lines [] = omega arith
few_lines (c ∷ cs) = let rest = few_lines cs in let step = line_case c cs (c == 10) refl in omega arith

some_shown : (p : Option (Bor (List ℕ))) → is_some p ≡ is_some (option_map (λ (x : Bor (List ℕ)). x.now) p)
some_shown None = refl
some_shown (Some x) = refl

-- the first bad line, of the text and of what was found
bad_same : (text : List ℕ) (f : Found) (last : ℕ) → Finds (lines text) f → last ≡ length (lines text) → bad_in f last ≡ bad_line text
unfolding forms_of
bad_same text f last h e =
    ap (λ b. cond (not b) (Some 1) (or_else f.wrong (cond (is_some f.block) (Some last) None))) (some_shown f.path ∙ ap is_some h.path)
    ∙ ap (λ w. cond (not (is_some (module_of (forms_in None (lines text))))) (Some 1) (or_else w (cond (is_some f.block) (Some last) None))) h.wrong
    ∙ ap (λ b. cond (not (is_some (module_of (forms_in None (lines text))))) (Some 1) (or_else (first_wrong 1 false (forms_in None (lines text))) (cond b (Some last) None))) h.unclosed
    ∙ ap (λ n. cond (not (is_some (module_of (forms_in None (lines text))))) (Some 1) (or_else (first_wrong 1 false (forms_in None (lines text))) (cond (stays_open None (lines text)) (Some n) None))) e

pub concluded : (text : List ℕ) (f : Found) (last : ℕ) (r : Result Mod ModFault) → Finds (lines text) f → last ≡ length (lines text) → Concludes f last r → HasReadText text r
unfolding forms_of
concluded text f last (Ok m) h e k = record {
  sound = sym (bad_same text f last h e) ∙ k.0;
  path = sym h.path ∙ k.1;
  replaced = k.2 ∙ h.replaced;
}
concluded text f last (Err (Line n)) h e k = sym (bad_same text f last h e) ∙ k
concluded text f last (Err NoMemory) h e k = tt

-- the lines that were collected are few
pub few_of : (bs : List ℕ) (r : Result (Vec (Bor (List ℕ)) Global) AllocError) → IfOk r (λ v. map (λ (x : Bor (List ℕ)). x.now) v.items ≡ lines bs) → IfOk r (λ v. length v.items ≤ length bs)
few_of bs (Ok v) h = let few = few_lines bs in let size = sym (length-map v.items (λ (x : Bor (List ℕ)). x.now)) ∙ ap length h in omega (arith, few, size)
few_of bs (Err e) h = h
