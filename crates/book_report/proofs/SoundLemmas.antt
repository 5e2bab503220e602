-- Where the outcomes of a sound book stand: behind the posts that filled their instances.
use Rattle.std.proofs.Common.{◌≡◌, ℕ, zero, suc, ◌+◌, ◌-◌, List, [], ◌∷◌, ◌++◌}
use Rattle.std.proofs.Common.{length, take, Option, Some, None, refl, sym, ap, ◌∙◌, subst, arith}
use Rattle.std.proofs.Common.{slice_get, inl, inr}
use Rattle.std.specs.Option.{option_to_list}
use Rattle.std.proofs.lemmas.Bool.{cases_lt}
use Rattle.std.proofs.lemmas.List.{take-append-le}
use Rattle.std.proofs.Math.Seq.{take-append_seam}
use Rattle.wall_policy.specs.Policy.{ChineseWall}
use Rattle.run_model.specs.declared.outcome.Outcome.{Outcome}
use Rattle.run_model.specs.declared.entry.Entry.{Entry}
use Rattle.run_model.specs.declared.entry.Entry.TheVariants.{Settled}
use Rattle.run_model.specs.Posts.{Post, place, outcome}
use Rattle.run_model.specs.Books.{posted, outcome_entry, entries_for, book, posts_in, IsSound}
use Rattle.run_model.proofs.RunModelLemmas.{posts_in-book, before_seam, after_seam, get_prefix}
use Rattle.book_report.specs.Held.{posts_to}

---- places in joined lists

-- the entry of a post is the post's alone
pub post_is : (x y : Post) → posted x ≡ posted y → x ≡ y
post_is x y e =
    let process : x.process ≡ y.process = cc in
    let comm : x.comm ≡ y.comm = cc in
    let stated : x.stated ≡ y.stated = cc in
    λ i. record { process = process i; comm = comm i; stated = stated i }

---- what one post gives

only_post : (y : Post) (past : List Post) (o : Option Outcome) (k : ℕ) (x : Post) →
    slice_get (posted y ∷ option_to_list (outcome_entry y past o)) k ≡ Some (posted x) →
    (k ≡ 0) × (y ≡ x)
only_post y past o zero x e = (refl, post_is y x (let s : posted y ≡ posted x = cc in s))
only_post y past None (suc k) x e = absurd (cc)
only_post y past (Some v) (suc zero) x e = absurd (cc)
only_post y past (Some v) (suc (suc k)) x e = absurd (cc)

only_told : (y : Post) (past : List Post) (v : Option Outcome) (j c k : ℕ) (o : Outcome) →
    slice_get (posted y ∷ option_to_list (outcome_entry y past v)) j ≡ Some (Settled c k o) →
    (j ≡ 1) × (v ≡ Some o)
only_told y past v zero c k o e = absurd (cc)
only_told y past None (suc j) c k o e = absurd (cc)
only_told y past (Some w) (suc zero) c k o e =
    (refl, (let s : w ≡ o = cc in ap (λ (z : Outcome). Some z) s))
only_told y past (Some w) (suc (suc j)) c k o e = absurd (cc)

---- what stands behind a post

-- entry i of these is x, and if it came to this outcome, the next tells it
abbrev pub IsToldBehind : ChineseWall → List Entry → (i : ℕ) → Post → Outcome → Type 0
IsToldBehind wall entries i x o = slice_get entries i ≡ Some (posted x) →
    outcome wall x (posts_to entries i) ≡ Some o →
    slice_get entries (i + 1) ≡ Some (Settled x.comm (place x (posts_to entries i)) o)

behind_of_book : (wall : ChineseWall) (past : List Post) (i : ℕ) (x : Post) (o : Outcome) →
    IsToldBehind wall (book wall past) i x o
behind_of_book wall [] i x o = λ at came. absurd (cc)
behind_of_book wall (y ∷ past) i x o = λ at came.
    elim (cases_lt i (length (book wall past))) [
      | inl low ↦
          let prefix : take i (book wall past ++ entries_for wall y past)
          ≡ take i (book wall past) =
          take-append-le i (book wall past) (entries_for wall y past) (omega arith) in
          let old = sym (before_seam (book wall past) (entries_for wall y past) i low) ∙ at in
          let older = subst (λ es. outcome wall x (posts_in es) ≡ Some o) prefix came in
          get_prefix (book wall past) (entries_for wall y past) (i + 1) _
          (behind_of_book wall past i x o old older)
          ∙ ap (λ es. Some (Settled x.comm (place x (posts_in es)) o)) (sym prefix)
      | inr high ↦
          let new = sym (after_seam (book wall past) (entries_for wall y past) i
          (i - length (book wall past)) (omega arith)) ∙ at in
          let is = only_post y past (outcome wall y past) (i - length (book wall past)) x new in
          let here : i ≡ length (book wall past) = omega (arith, is.0, high) in
          let prefix : take i (book wall past ++ entries_for wall y past) ≡ book wall past =
          ap (λ n. take n (book wall past ++ entries_for wall y past)) here
          ∙ take-append_seam (book wall past) (entries_for wall y past) in
          let posts : posts_in (take i (book wall past ++ entries_for wall y past)) ≡ past =
          ap posts_in prefix ∙ posts_in-book wall past in
          let its : outcome wall y past ≡ Some o =
          ap (λ z. outcome wall z past) is.1 ∙ (ap (λ ps. outcome wall x ps) (sym posts) ∙ came) in
          after_seam (book wall past) (entries_for wall y past) (i + 1) 1 (omega (arith, here))
          ∙ (ap (λ v. slice_get (posted y ∷ option_to_list (outcome_entry y past v)) 1) its
          ∙ (ap (λ (z : Post). Some (Settled z.comm (place z past) o)) is.1
          ∙ ap (λ ps. Some (Settled x.comm (place x ps) o)) (sym posts)))
    ]

pub told_behind : (wall : ChineseWall) (entries : List Entry) (i : ℕ) (x : Post) (o : Outcome) →
    IsSound wall entries → IsToldBehind wall entries i x o
told_behind wall entries i x o sound =
    subst (λ es. IsToldBehind wall es i x o) (sym sound.given)
    (behind_of_book wall (posts_in entries) i x o)

---- what stands before an outcome

pub record IsToldOf (wall : ChineseWall) (entries : List Entry) (i : ℕ) (o : Outcome) : Type 0 where
  pub m : ℕ
  pub x : Post
  pub next : i ≡ m + 1
  pub at : slice_get entries m ≡ Some (posted x)
  pub came : outcome wall x (posts_to entries m) ≡ Some o

before_in_book : (wall : ChineseWall) (past : List Post) (i c k : ℕ) (o : Outcome) →
    slice_get (book wall past) i ≡ Some (Settled c k o) → IsToldOf wall (book wall past) i o
before_in_book wall [] i c k o at = absurd (cc)
before_in_book wall (y ∷ past) i c k o at =
    elim (cases_lt i (length (book wall past))) [
      | inl low ↦
          let old = sym (before_seam (book wall past) (entries_for wall y past) i low) ∙ at in
          let f = before_in_book wall past i c k o old in
          let next = f.next in
          let prefix : take f.m (book wall past ++ entries_for wall y past)
          ≡ take f.m (book wall past) =
          take-append-le f.m (book wall past) (entries_for wall y past)
          (omega (arith, next, low)) in
          record {
            m = f.m;
            x = f.x;
            next = next;
            at = get_prefix (book wall past) (entries_for wall y past) f.m _ f.at;
            came = subst (λ es. outcome wall f.x (posts_in es) ≡ Some o) (sym prefix) f.came;
          }
      | inr high ↦
          let new = sym (after_seam (book wall past) (entries_for wall y past) i
          (i - length (book wall past)) (omega arith)) ∙ at in
          let is = only_told y past (outcome wall y past) (i - length (book wall past)) c k o new in
          let posts : posts_in (take (length (book wall past))
          (book wall past ++ entries_for wall y past)) ≡ past =
          ap posts_in (take-append_seam (book wall past) (entries_for wall y past))
          ∙ posts_in-book wall past in
          record {
            m = length (book wall past);
            x = y;
            next = omega (arith, is.0, high);
            at = after_seam (book wall past) (entries_for wall y past) (length (book wall past)) 0
                (omega arith);
            came = ap (λ ps. outcome wall y ps) posts ∙ is.1;
          }
    ]

pub told_of_post : (wall : ChineseWall) (entries : List Entry) (i c k : ℕ) (o : Outcome) →
    IsSound wall entries → slice_get entries i ≡ Some (Settled c k o) → IsToldOf wall entries i o
told_of_post wall entries i c k o sound =
    subst (λ es. slice_get es i ≡ Some (Settled c k o) → IsToldOf wall es i o) (sym sound.given)
    (before_in_book wall (posts_in entries) i c k o)
