-- What lists say that are numbered anew item by item, over a list that is walked from its front.
use Rattle.std.proofs.Common.{◌≡◌, ℕ, ◌+◌, Bool, true, false, not, ◌||◌, List}
use Rattle.std.proofs.Common.{[], ◌∷◌, ◌++◌, drop, map, Some, slice_get, refl}
use Rattle.std.proofs.Common.{sym, ap, ◌∙◌, append_assoc, subst, ⊎_elim}
use Rattle.std.specs.Prelude.{option_and_then, filter, if◌then◌else◌}
use Rattle.std.specs.Str.{bytes_eq}
use Rattle.std.proofs.lemmas.Bool.{cases_Bool, false≢true, or_parts, or_right}
use Rattle.std.proofs.lemmas.List.{drop_more}
use Rattle.std.proofs.lemmas.List.Folds.{list_any-append}
use Rattle.std.proofs.lemmas.Option.{slice_get_within, get_or_from_slice_get}
use Rattle.std.proofs.lemmas.Slice.Eq.{bytes_eq-Decides}
use Rattle.wall_policy.specs.Names.{Name, is_in, comes_twice}
use Rattle.wall_policy.specs.Policy.{ChineseWall}
use Rattle.wall_policy.specs.Growth.{renumbered, names_first, class_number, class_name_of}
use Rattle.wall_policy.specs.Growth.{place_if_any}

-- what is left of a list from a place on begins with what stands there
pub drop_at : {X : Type 0} (xs : List X) (i : ℕ) (x : X) → slice_get xs i ≡ Some x →
    drop i xs ≡ x ∷ drop (i + 1) xs
drop_at xs i x at =
    drop_more xs i x (slice_get_within xs i x at)
    ∙ ap (λ z. z ∷ drop (i + 1) xs) (get_or_from_slice_get xs i x x at)

pub mapped_on : {A B : Type 0} (f : A → B) (prefix : List B) (xs : List A) (i : ℕ) (x : A)
    (all : List B) → slice_get xs i ≡ Some x → prefix ++ map f (drop i xs) ≡ all →
    (prefix ++ f x ∷ []) ++ map f (drop (i + 1) xs) ≡ all
mapped_on f prefix xs i x all at h =
    append_assoc prefix (f x ∷ []) _
    ∙ ap (λ ys. prefix ++ map f ys) (sym (drop_at xs i x at))
    ∙ h

---- Names that are added behind others.

-- The table so far, and the names that are still to come: those of the first that are not there are
-- added, and a name that is to come is in the table only if it is one of the first.
pub record IsAdded (first others table rest : List Name) : Type 0 where
  pub all : table ++ filter (λ name. not (is_in first name)) rest
      ≡ first ++ filter (λ name. not (is_in first name)) others
  pub fresh : (name : Name) → is_in rest name ≡ true → is_in table name ≡ is_in first name
  pub once : comes_twice rest ≡ false

abbrev pub with_new : (table : List Name) (name : Name) (added : Bool) → List Name
with_new table name added = if added then table ++ name ∷ [] else table

module _ (first others table rest : List Name) (x : Name)
    (so_far : IsAdded first others table (x ∷ rest)) where
  here : is_in (x ∷ rest) x ≡ true
  here = ap (λ b. b || is_in rest x) ((bytes_eq-Decides x x).1 refl)

  same : is_in table x ≡ is_in first x
  same = so_far.fresh x here

  all_on : (t : Bool) → is_in first x ≡ t →
      with_new table x (not t) ++ filter (λ name. not (is_in first name)) rest
      ≡ table ++ filter (λ name. not (is_in first name)) (x ∷ rest)
  all_on true is = rw is refl
  all_on false is = rw is (append_assoc table (x ∷ []) _)

  fresh_on : (t : Bool) (name : Name) → is_in rest name ≡ true →
      is_in (with_new table x (not t)) name ≡ is_in first name
  fresh_on true name to_come =
      so_far.fresh name (or_right (bytes_eq name x) (is_in rest name) to_come)
  fresh_on false name to_come =
      let other : bytes_eq name x ≡ false = ⊎_elim
      (λ equal. absurd (false≢true (sym (or_parts (is_in rest x) (comes_twice rest) so_far.once).0
      ∙ ap (is_in rest) (sym ((bytes_eq-Decides name x).0 equal)) ∙ to_come)))
      (λ no. no)
      (cases_Bool (bytes_eq name x)) in
      list_any-append (bytes_eq name) table (x ∷ [])
      ∙ ap (λ b. is_in table name || (b || false)) other
      ∙ or_none (is_in table name)
      ∙ so_far.fresh name (or_right (bytes_eq name x) (is_in rest name) to_come)
    where
      or_none : (b : Bool) → (b || (false || false)) ≡ b
      or_none true = refl
      or_none false = refl

  pub added_on : IsAdded first others (with_new table x (not (is_in table x))) rest
  added_on = subst (λ t. IsAdded first others (with_new table x (not t)) rest) (sym same) (record {
    all = all_on (is_in first x) refl ∙ so_far.all;
    fresh = fresh_on (is_in first x);
    once = (or_parts (is_in rest x) (comes_twice rest) so_far.once).1;
  })

---- The policy that is made of these lists.

pub is_renumbered : (old new w : ChineseWall) → w.version ≡ new.version →
    w.class_names ≡ names_first old.class_names new.class_names →
    w.dataset_names ≡ names_first old.dataset_names new.dataset_names →
    w.process_names ≡ new.process_names →
    w.classes ≡ map (λ name. class_number w.class_names (class_name_of new name)) w.dataset_names →
    w.homes ≡ map (λ home. place_if_any w.dataset_names
    (option_and_then (λ d. slice_get new.dataset_names d) home)) new.homes →
    w.leasts ≡ new.leasts → w.distincts ≡ new.distincts → w.held ≡ [] → w ≡ renumbered old new
is_renumbered old new w version of_classes of_datasets of_processes classes homes leasts distincts
    held = λ i. record {
      version = version i;
      class_names = of_classes i;
      dataset_names = of_datasets i;
      process_names = of_processes i;
      classes = (classes ∙ (λ j. map (λ name. class_number (of_classes j) (class_name_of new name))
          (of_datasets j))) i;
      homes = (homes ∙ (λ j. map (λ home. place_if_any (of_datasets j)
          (option_and_then (λ d. slice_get new.dataset_names d) home)) new.homes)) i;
      leasts = leasts i;
      distincts = distincts i;
      held = held i;
    }
