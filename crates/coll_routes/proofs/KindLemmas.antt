-- A kind by its name, among those whose names have as many bytes.
use Rattle.std.proofs.Common.{◌≡◌, ◌≤◌, ℕ, Bool, true, false, cond, leb, ◌&&◌, List, [], ◌∷◌, length}
use Rattle.std.proofs.Common.{Option, Some, refl, ap}
use Rattle.std.specs.List.{find, filter}
use Rattle.std.specs.Str.{bytes_eq}
use Rattle.std.proofs.lemmas.Bool.{and_from, false_from_ne_true, le-leb}
use Rattle.std.proofs.lemmas.Slice.Eq.{bytes_eq-Decides}
use Rattle.coll_routes.specs.declared.kind.Kind.{Kind}
use Rattle.coll_routes.specs.Kinds.{kind_name, kind_of, all_kinds, kinds_between, longest_kinds}

kept_step : (p q : Kind → Bool) → ((k : Kind) → q k ≡ false → p k ≡ false) → (k : Kind) →
    (ks : List Kind) → (b : Bool) → q k ≡ b → find p (filter q ks) ≡ find p ks →
    find p (filter q (k ∷ ks)) ≡ find p (k ∷ ks)
kept_step p q h k ks true e so_far =
    rw e (ap (λ (r : Option Kind). cond (p k) (Some k) r) so_far)
kept_step p q h k ks false e so_far = rw (e, h k e) so_far

-- what is filtered out is not looked for
kept : (p q : Kind → Bool) → ((k : Kind) → q k ≡ false → p k ≡ false) → (ks : List Kind) →
    find p (filter q ks) ≡ find p ks
kept p q h [] = refl
kept p q h (k ∷ ks) = kept_step p q h k ks (q k) refl (kept p q h ks)

-- a name of another length is another name
other_name : (q : ℕ → Bool) (k : Kind) (name : List ℕ) → q (length name) ≡ true →
    q (length (kind_name k)) ≡ false → bytes_eq (kind_name k) name ≡ false
other_name q k name h e = false_from_ne_true (bytes_eq (kind_name k) name)
    (λ eq. let same : q (length (kind_name k)) ≡ q (length name) = ap (λ (w : List ℕ). q (length w))
    ((bytes_eq-Decides (kind_name k) name).0 eq) in cc)

found_among : (q : ℕ → Bool) (name : List ℕ) → q (length name) ≡ true →
    find (λ k. bytes_eq (kind_name k) name) (filter (λ k. q (length (kind_name k))) all_kinds)
    ≡ kind_of name
unfolding kind_of
found_among q name h = kept (λ k. bytes_eq (kind_name k) name) (λ k. q (length (kind_name k)))
    (λ k e. other_name q k name h e) all_kinds

pub found_between : (least most : ℕ) (name : List ℕ) → least ≤ length name → length name ≤ most →
    find (λ k. bytes_eq (kind_name k) name) (kinds_between least most) ≡ kind_of name
found_between least most name lo hi = found_among (λ n. leb least n && leb n most) name
    (and_from (leb least (length name)) (leb (length name) most) (le-leb least (length name) lo)
    (le-leb (length name) most hi))

pub found_longest : (name : List ℕ) → 20 ≤ length name →
    find (λ k. bytes_eq (kind_name k) name) longest_kinds ≡ kind_of name
found_longest name lo = found_among (leb 20) name (le-leb 20 (length name) lo)
