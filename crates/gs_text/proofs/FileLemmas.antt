-- A file map beside the tree that keeps it.
use Rattle.std.proofs.Common.{◌≡◌, ℕ, cond, List, [], ◌∷◌, map, refl, sym, ◌∙◌, ap}
use Rattle.std.specs.Prelude.{Option, Some, None, string_bytes, String}
use Rattle.std.specs.Ordering.{nat_cmp, eq_by_cmp}
use Rattle.std.specs.Cmp.Lexicographic.{slice_cmp, nat_list_cmp_total}
use Rattle.std.specs.String.{string_cmp}
use Rattle.std.specs.Str.{bytes_eq}
use Rattle.std.specs.List.{AllZip}
use Rattle.std.specs.Map.{lookup}
use Rattle.std.specs.BTreeMap.{BTreeMap, is_at, get_by_text, UpdatesBy}
use Rattle.std.specs.FinMap.{get, find, insert, remove, from_entries, get-from_entries, get-insert, get-remove, same_map, nat_cmp-IsAntisymmetric, slice_cmp-IsAntisymmetric}
use Rattle.std.specs.declared.alloc.Global.{Global}
use Rattle.std.proofs.lemmas.Cmp.{eq_by_cmp_equiv}
use Rattle.std.proofs.lemmas.Map.Text.{btree_map_updates_text, is_eq-slice_cmp}
use Rattle.gs_text.specs.FileMap.{files_of}

abbrev Entries : Type 0
Entries = List (String Global × List ℕ)

find-entries : (path : List ℕ) (es : Entries) → find (slice_cmp nat_cmp) path (map (λ e. (string_bytes e.0, e.1)) es) ≡ lookup (is_at (λ k. slice_cmp nat_cmp path (string_bytes k))) es
find-entries path [] = refl
find-entries path (e ∷ es) = ap (cond (eq_by_cmp (slice_cmp nat_cmp) path (string_bytes e.0)) (Some e.1)) (find-entries path es)

-- the map has what the tree has
pub get-files : (m : BTreeMap (String Global) (List ℕ)) (path : List ℕ) → get (files_of m.entries) path ≡ get_by_text m path
get-files m path = get-from_entries nat_list_cmp_total (map (λ e. (string_bytes e.0, e.1)) m.entries) path ∙ find-entries path m.entries

same_key : (k q : List ℕ) → bytes_eq k q ≡ eq_by_cmp (slice_cmp nat_cmp) q k
same_key k q = sym (is_eq-slice_cmp k q) ∙ (eq_by_cmp_equiv nat_list_cmp_total).symm k q

-- a change of the tree at one key changes the map there
at_key : (k : List ℕ) (m n : BTreeMap (String Global) (List ℕ)) (w : Option (List ℕ)) → UpdatesBy string_cmp (λ x. slice_cmp nat_cmp k (string_bytes x)) m n w → (q : List ℕ) → get (files_of n.entries) q ≡ cond (eq_by_cmp (slice_cmp nat_cmp) q k) w (get (files_of m.entries) q)
at_key k m n w updates q =
    get-files n q
    ∙ btree_map_updates_text k m n w updates q
    ∙ ap (λ b. cond b w (get_by_text m q)) (same_key k q)
    ∙ ap (cond (eq_by_cmp (slice_cmp nat_cmp) q k) w) (sym (get-files m q))

pub files-insert : (k : List ℕ) (m n : BTreeMap (String Global) (List ℕ)) (v : List ℕ) → UpdatesBy string_cmp (λ x. slice_cmp nat_cmp k (string_bytes x)) m n (Some v) → files_of n.entries ≡ insert (files_of m.entries) k v
files-insert k m n v updates =
    same_map nat_list_cmp_total (slice_cmp-IsAntisymmetric nat_cmp-IsAntisymmetric) (files_of n.entries) (insert (files_of m.entries) k v)
    (λ q. at_key k m n (Some v) updates q ∙ sym (get-insert nat_list_cmp_total (files_of m.entries) k v q))

pub files-remove : (k : List ℕ) (m n : BTreeMap (String Global) (List ℕ)) → UpdatesBy string_cmp (λ x. slice_cmp nat_cmp k (string_bytes x)) m n None → files_of n.entries ≡ remove (files_of m.entries) k
files-remove k m n updates =
    same_map nat_list_cmp_total (slice_cmp-IsAntisymmetric nat_cmp-IsAntisymmetric) (files_of n.entries) (remove (files_of m.entries) k)
    (λ q. at_key k m n None updates q ∙ sym (get-remove nat_list_cmp_total (files_of m.entries) k q))

-- a tree and its clone have one map
pub files-clone : (es cs : Entries) → AllZip (λ e c. (string_bytes c.0 ≡ string_bytes e.0) × (c.1 ≡ e.1)) es cs → files_of cs ≡ files_of es
files-clone es cs clones = ap from_entries (same_files es cs clones)
  where
    same_files : (es cs : Entries) → AllZip (λ e c. (string_bytes c.0 ≡ string_bytes e.0) × (c.1 ≡ e.1)) es cs → map {B = List ℕ × List ℕ} (λ c. (string_bytes c.0, c.1)) cs ≡ map {B = List ℕ × List ℕ} (λ e. (string_bytes e.0, e.1)) es
    same_files [] [] clones = refl
    same_files [] (c ∷ cs) clones = absurd clones
    same_files (e ∷ es) [] clones = absurd clones
    same_files (e ∷ es) (c ∷ cs) clones = λ i. (clones.0.0 i, clones.0.1 i) ∷ same_files es cs clones.1 i
