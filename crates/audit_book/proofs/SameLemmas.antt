-- Whether two texts are the same, byte by byte.
use Rattle.std.proofs.Common.{◌≡◌, ◌≢◌, ℕ, ◌<◌, List, length, get_or, true, false, ap, inl, inr}
use Rattle.std.proofs.lemmas.Bool.{cases_Bool}
use Rattle.std.proofs.lemmas.List.{ext_get_or}
use Rattle.std.proofs.lemmas.Slice.Eq.{bytes_eq-Decides}
use Rattle.std.specs.Str.{bytes_eq}

pub is_same : (xs ys : List ℕ) → length xs ≡ length ys →
    ((i : ℕ) → i < length xs → get_or xs i 0 ≡ get_or ys i 0) → bytes_eq xs ys ≡ true
is_same xs ys long same = (bytes_eq-Decides xs ys).1 (ext_get_or 0 xs ys long same)

pub is_other : (xs ys : List ℕ) (i : ℕ) → get_or xs i 0 ≢ get_or ys i 0 → bytes_eq xs ys ≡ false
is_other xs ys i other = elim (cases_Bool (bytes_eq xs ys)) [
  | inl same ↦ absurd (other (ap (λ l. get_or l i 0) ((bytes_eq-Decides xs ys).0 same)))
  | inr differ ↦ differ
]

pub is_longer : (xs ys : List ℕ) → length xs ≢ length ys → bytes_eq xs ys ≡ false
is_longer xs ys other = elim (cases_Bool (bytes_eq xs ys)) [
  | inl same ↦ absurd (other (ap length ((bytes_eq-Decides xs ys).0 same)))
  | inr differ ↦ differ
]
