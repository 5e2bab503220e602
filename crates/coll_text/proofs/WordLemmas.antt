-- Words that name a policy's datasets are read as they are written.
use Rattle.wall_policy.specs.Known.{IsKnownLabel}
use Rattle.std.proofs.Common.{◌≡◌, ℕ, suc, ◌+◌, ◌^◌, ◌<◌, Bool, true, false, not, cond, ◌&&◌, eqb}
use Rattle.std.proofs.Common.{length, List, [], ◌∷◌, Option, Some, None, option_map, slice_get}
use Rattle.std.proofs.Common.{get_or, unwrap_or, Ok, codes, refl, ap, ◌∙◌, arith}
use Rattle.std.specs.List.{position_from}
use Rattle.std.specs.Str.{bytes_eq}
use Rattle.std.specs.Fmt.{decimal}
use Rattle.std.proofs.lemmas.Bool.{and_parts}
use Rattle.std.proofs.lemmas.Fmt.{decimal_nonempty}
use Rattle.std.proofs.lemmas.Option.{slice_get-get_or}
use Rattle.std.proofs.lemmas.Slice.Eq.{bytes_eq-Decides}
use Rattle.wall_labels.specs.declared.label.Label.{Label}
use Rattle.wall_labels.specs.declared.label.Label.TheVariants.{Public, Of}
use Rattle.wall_policy.specs.Names.{Name, is_name, is_dataset_name, place_of}
use Rattle.wall_policy.specs.Policy.{ChineseWall, IsPolicy}
use Rattle.wall_policy.proofs.WallPolicyLemmas.{place_of-name, list_all-place}
use Rattle.coll_text.specs.declared.fault.LineFault.TheVariants.{BadLabel}
use Rattle.coll_text.specs.Numbers.{Word}
use Rattle.coll_text.specs.Reading.{some_or}
use Rattle.coll_text.specs.Words.{name_at, label_word, label_of}
use Rattle.coll_text.proofs.AgainLemmas.{positive}
use Rattle.coll_text.proofs.FoundLemmas.{ok_is}

-- the digits of a number are a word
pub decimal_some : (n : ℕ) → n < 2 ^ 64 → eqb (length (decimal n)) 0 ≡ false
decimal_some n h = positive (decimal n) (decimal_nonempty n h)

pub name_some : (n : Name) → is_name n ≡ true → eqb (length n) 0 ≡ false
name_some [] e = absurd cc
name_some (b ∷ bs) e = positive (b ∷ bs) (omega arith)

-- ---- what is read is spelled so

place_by : (w n : Word) (ns : List Word) (k d : ℕ) (b : Bool) → bytes_eq w n ≡ b →
    (position_from (bytes_eq w) (k + 1) ns ≡ Some d →
    (i : ℕ) × (k + 1 + i ≡ d) × (w ≡ name_at ns i))
    → cond b (Some k) (position_from (bytes_eq w) (k + 1) ns) ≡ Some d →
    (i : ℕ) × (k + i ≡ d) × (w ≡ name_at (n ∷ ns) i)
place_by w n ns k d true same rest h =
    let at : k ≡ d = cc in (0, omega (arith, at), (bytes_eq-Decides w n).0 same)
place_by w n ns k d false same rest h = let r = rest h in (suc r.0, omega (arith, r.1), r.2)

place_from : (w : Word) (names : List Word) (k d : ℕ) →
    position_from (bytes_eq w) k names ≡ Some d → (i : ℕ) × (k + i ≡ d) × (w ≡ name_at names i)
place_from w [] k d e = absurd cc
place_from w (n ∷ ns) k d e = place_by w n ns k d (bytes_eq w n) refl (place_from w ns (k + 1) d) e

pub place_found : (w : Word) (names : List Word) (d : ℕ) → place_of w names ≡ Some d →
    w ≡ name_at names d
place_found w names d e = let r = place_from w names 0 d e in
    let at : r.0 ≡ d = omega (arith, r.1) in r.2 ∙ ap (name_at names) at

label_by : (datasets : List Word) (w : Word) (label : Label) (r : Option ℕ) →
    place_of w datasets ≡ r → some_or BadLabel (option_map Of r) ≡ Ok label →
    w ≡ label_word datasets label
label_by datasets w label None at e = absurd cc
label_by datasets w label (Some d) at e =
    place_found w datasets d at ∙ ap (label_word datasets) (ok_is (Of d) label e)

label_either : (datasets : List Word) (w : Word) (label : Label) (b : Bool) →
    bytes_eq w (codes "public") ≡ b
    → cond b (Ok Public) (some_or BadLabel (option_map Of (place_of w datasets))) ≡ Ok label →
    w ≡ label_word datasets label
label_either datasets w label true same e =
    (bytes_eq-Decides w (codes "public")).0 same ∙ ap (label_word datasets) (ok_is Public label e)
label_either datasets w label false same e = label_by datasets w label (place_of w datasets) refl e

pub label_found : (datasets : List Word) (w : Word) (label : Label) →
    label_of datasets w ≡ Ok label → w ≡ label_word datasets label
unfolding label_of
label_found datasets w label e = label_either datasets w label (bytes_eq w (codes "public")) refl e

-- ---- what is spelled so is read

turned : (b : Bool) → not b ≡ true → b ≡ false
turned true e = absurd cc
turned false e = refl

-- a name of a dataset as a word
pub record IsNameOf (names : List Name) (d : ℕ) (w : Word) : Type 0 where
  pub word : name_at names d ≡ w
  pub named : is_name w ≡ true
  pub some : eqb (length w) 0 ≡ false
  pub other : bytes_eq w (codes "public") ≡ false
  pub place : place_of w names ≡ Some d

name_of : (wall : ChineseWall) (d : ℕ) (w : Word) → IsPolicy wall →
    slice_get wall.dataset_names d ≡ Some w → IsNameOf wall.dataset_names d w
name_of wall d w good at =
    let h : is_dataset_name w ≡ true = list_all-place is_dataset_name wall.dataset_names d w
    good.good_datasets at in
    let p = and_parts (is_name w && not (bytes_eq w (codes "public")))
    (not (bytes_eq w (codes "none"))) h in
    let q = and_parts (is_name w) (not (bytes_eq w (codes "public"))) p.0 in
    record {
      word = ap (λ o. unwrap_or o []) at;
      named = q.0;
      some = name_some w q.0;
      other = turned (bytes_eq w (codes "public")) q.1;
      place = place_of-name wall.dataset_names d w good.distinct_datasets at;
    }

pub name_at_of : (wall : ChineseWall) (d : ℕ) → IsPolicy wall → d < length wall.dataset_names →
    (w : Word) × IsNameOf wall.dataset_names d w
name_at_of wall d good lt = (
  get_or wall.dataset_names d [],
  name_of wall d (get_or wall.dataset_names d []) good
      (slice_get-get_or wall.dataset_names d [] lt),
)

pub label_some : (wall : ChineseWall) (label : Label) → IsPolicy wall → IsKnownLabel wall label →
    eqb (length (label_word wall.dataset_names label)) 0 ≡ false
label_some wall Public good known = refl
label_some wall (Of d) good known = let n = name_at_of wall d good known in rw n.1.word n.1.some

pub label_again : (wall : ChineseWall) (label : Label) → IsPolicy wall → IsKnownLabel wall label →
    label_of wall.dataset_names (label_word wall.dataset_names label) ≡ Ok label
unfolding label_of
label_again wall Public good known = refl
label_again wall (Of d) good known =
    let n = name_at_of wall d good known in rw (n.1.word, n.1.other, n.1.place) refl
