-- What stands on both sides of `=>`, and what lines say one behind the other.
use Rattle.std.proofs.Common.{◌≡◌, ℕ, suc, ◌+◌, Bool, true, false, ◌||◌, cond, ◌<◌, ◌≤◌, List, [], ◌∷◌, length, take, drop, get_or, map, subst, refl, sym, ap, ◌∙◌, arith, Option, Some, None}
use Rattle.std.specs.Borrow.{Bor}
use Rattle.std.specs.Option.{is_some, option_map}
use Rattle.std.proofs.Math.Seq.{drop-cons}
use Rattle.std.proofs.lemmas.List.{take-map, drop-map, drop-drop}
use Rattle.gs_gomod.specs.declared.word.Word.{Word as WordItem}
use Rattle.gs_gomod.specs.Forms.{Form, words_form, form_of, empty, opens, closes, a_module, a_replace, passed, bad, side, paths, arrow_at, replace_form, is_wrong, is_module, first_wrong, or_else, module_in, module_of, forms_in, block_behind, stays_open, put_all}
use Rattle.gs_gomod.specs.Steps.{HasReadLine, Leads}
use Rattle.gs_gomod.specs.declared.read.Found.{Found}
use Rattle.gs_gomod.specs.Words.{Word, words}
use Rattle.gs_gomod.specs.Shown.{seen}

-- the words behind the arrow
behind : (words : List WordItem) (n : ℕ) (x : WordItem) (after : List WordItem) → drop n words ≡ x ∷ after → drop (n + 1) words ≡ after
behind words n x after e = sym (drop-drop 1 n words) ∙ ap (drop 1) e

pub replace_at : (words before rest after : List WordItem) (x : WordItem) (n : ℕ) → n ≡ arrow_at (map seen words) → before ≡ take n words → rest ≡ drop n words → rest ≡ x ∷ after →
    paths (side (map seen before)) (side (map seen after)) ≡ replace_form (map seen words)
replace_at words before rest after x n e b r k =
    ap (λ l. paths (side (map seen l)) (side (map seen after))) b
    ∙ ap (λ l. paths (side l) (side (map seen after))) (sym (take-map seen n words))
    ∙ ap (λ l. paths (side (take n (map seen words))) (side (map seen l))) (sym (behind words n x after (sym r ∙ k)))
    ∙ ap (λ l. paths (side (take n (map seen words))) (side l)) (sym (drop-map seen (n + 1) words))
    ∙ ap (λ m. paths (side (take m (map seen words))) (side (drop (m + 1) (map seen words)))) e

-- a line of three words or more neither opens nor closes a block
pub three_words : (block : Option Word) (ws : List WordItem) → 3 ≤ length ws → words_form block (map seen ws) ≡ form_of block (map seen ws)
three_words block [] h = absurd (omega (arith, h))
three_words block (w ∷ []) h = absurd (omega (arith, h))
three_words block (w ∷ x ∷ []) h = absurd (omega (arith, h))
three_words block (w ∷ x ∷ y ∷ ws) h = refl

-- one line more
pub path_step : (p q : Option (List ℕ)) (f : Form) (fs : List Form) → q ≡ or_else p (module_in f) → or_else q (module_of fs) ≡ or_else p (module_of (f ∷ fs))
path_step None q f fs e = ap (λ x. or_else x (module_of fs)) e
path_step (Some x) q f fs e = ap (λ x. or_else x (module_of fs)) e

has_module : (f : Form) → is_some (module_in f) ≡ is_module f
has_module (a_module p) = refl
has_module empty = refl
has_module (opens verb) = refl
has_module closes = refl
has_module (a_replace p t) = refl
has_module passed = refl
has_module bad = refl

named_step : (p : Option (List ℕ)) (f : Form) → is_some (or_else p (module_in f)) ≡ (is_some p || is_module f)
named_step None f = has_module f
named_step (Some x) f = refl

wrong_here : (n : ℕ) (named b : Bool) (f : Form) (fs : List Form) → is_wrong named f ≡ b → or_else (cond b (Some n) None) (first_wrong (n + 1) (named || is_module f) fs) ≡ first_wrong n named (f ∷ fs)
wrong_here n named true f fs h = sym (ap (λ b. cond b (Some n) (first_wrong (n + 1) (named || is_module f) fs)) h)
wrong_here n named false f fs h = sym (ap (λ b. cond b (Some n) (first_wrong (n + 1) (named || is_module f) fs)) h)

pub wrong_step : (w v : Option ℕ) (n : ℕ) (p q : Option (List ℕ)) (f : Form) (fs : List Form) → q ≡ or_else p (module_in f) → v ≡ or_else w (cond (is_wrong (is_some p) f) (Some n) None) →
    or_else v (first_wrong (n + 1) (is_some q) fs) ≡ or_else w (first_wrong n (is_some p) (f ∷ fs))
wrong_step None v n p q f fs e k =
    ap (λ x. or_else x (first_wrong (n + 1) (is_some q) fs)) k
    ∙ ap (λ b. or_else (cond (is_wrong (is_some p) f) (Some n) None) (first_wrong (n + 1) b fs)) (ap is_some e ∙ named_step p f)
    ∙ wrong_here n (is_some p) (is_wrong (is_some p) f) f fs refl
wrong_step (Some m) v n p q f fs e k = ap (λ x. or_else x (first_wrong (n + 1) (is_some q) fs)) k

some_shown : (p : Option (Bor (List ℕ))) → is_some (option_map (λ (x : Bor (List ℕ)). x.now) p) ≡ is_some p
some_shown None = refl
some_shown (Some x) = refl

-- one line more is found
pub leads_on : (f g : Found) (n : ℕ) (line : List ℕ) (rest all : List (List ℕ)) → Leads f n (line ∷ rest) all → HasReadLine f g n line → Leads g (n + 1) rest all
leads_on f g n line rest all h k =
    let block = option_map seen f.block in
    let form = form_of block (words line) in
    record {
      path = ap (λ b. or_else (option_map (λ x. x.now) g.path) (module_of (forms_in b rest))) k.block ∙ path_step _ _ form (forms_in (block_behind block form) rest) k.path ∙ h.path;
      wrong = ap (λ b. or_else g.wrong (first_wrong (n + 1) (is_some g.path) (forms_in b rest))) k.block
          ∙ ap (λ b. or_else g.wrong (first_wrong (n + 1) b (forms_in (block_behind block form) rest))) (sym (some_shown g.path))
          ∙ wrong_step f.wrong g.wrong n (option_map (λ x. x.now) f.path) (option_map (λ x. x.now) g.path) form (forms_in (block_behind block form) rest) k.path
          (k.wrong ∙ ap (λ b. or_else f.wrong (cond (is_wrong b form) (Some n) None)) (sym (some_shown f.path)))
          ∙ ap (λ b. or_else f.wrong (first_wrong n b (form ∷ forms_in (block_behind block form) rest))) (some_shown f.path)
          ∙ h.wrong;
      unclosed = ap (λ b. stays_open b rest) k.block ∙ h.unclosed;
      replaced = ap (λ b. put_all g.replaced.entries (forms_in b rest)) k.block ∙ ap (λ es. put_all es (forms_in (block_behind block form) rest)) k.replaced ∙ h.replaced;
    }

pub leads_next : (f g : Found) (i n : ℕ) (ls : List (Bor (List ℕ))) (d : Bor (List ℕ)) → i < length ls → n ≡ i → Leads f (i + 1) (map (λ x. x.now) (drop i ls)) (map (λ x. x.now) ls) →
    HasReadLine f g (n + 1) (get_or ls i d).now → Leads g (i + 1 + 1) (map (λ x. x.now) (drop (i + 1) ls)) (map (λ x. x.now) ls)
leads_next f g i n ls d within count h k =
    let one : suc i ≡ i + 1 = omega arith in
    let here : drop i ls ≡ get_or ls i d ∷ drop (i + 1) ls = drop-cons ls i d within ∙ ap (λ m. get_or ls i d ∷ drop m ls) one in
    leads_on f g (i + 1) (get_or ls i d).now (map (λ x. x.now) (drop (i + 1) ls)) (map (λ x. x.now) ls)
    (subst (λ l. Leads f (i + 1) (map (λ x. x.now) l) (map (λ x. x.now) ls)) here h)
    (subst (λ m. HasReadLine f g (m + 1) (get_or ls i d).now) count k)
