-- Books and their posts; what it means that a sound book begins with some entries.
use Rattle.std.proofs.Common.{◌≡◌, ℕ, suc, zero, ◌+◌, ◌-◌, ◌<◌, ◌≤◌, List, [], ◌∷◌, ◌++◌, length}
use Rattle.std.proofs.Common.{take, drop, refl, sym, ap, ◌∙◌, subst, arith, inl, inr, ◌⊎◌, ⊎_elim}
use Rattle.std.proofs.Common.{not, Option, Some, None, reverse, slice_get, append_assoc}
use Rattle.std.specs.Prelude.{filter_map}
use Rattle.std.specs.Option.{option_to_list}
use Rattle.std.proofs.lemmas.List.{reverse-append, append-nil, take-append-drop, take-take}
use Rattle.std.proofs.lemmas.List.{take-append-le}
use Rattle.std.proofs.Math.Seq.{take-append_seam}
use Rattle.std.proofs.lemmas.Bool.{cases_lt}
use Rattle.std.proofs.lemmas.List.Elements.{filter_map-append}
use Rattle.wall_policy.specs.Policy.{ChineseWall}
use Rattle.run_model.specs.declared.outcome.Outcome.{Outcome}
use Rattle.run_model.specs.declared.entry.Entry.{Entry}
use Rattle.run_model.specs.declared.entry.Entry.TheVariants.{Posted}
use Rattle.coll_routes.specs.declared.statement.Stated.{Stated}
use Rattle.wall_verdict.specs.Star.{star}
use Rattle.run_model.specs.Posts.{Post, outcome, histories}
use Rattle.run_model.specs.PostLaws.{BooksOfPostsAreSound, SoundBooksKeepTheWall}
use Rattle.run_model.specs.PostLaws.{WordsAreOfTheStarRule}
use Rattle.run_model.proofs.HoldingLemmas.{holding_is_history, nobody_holds_two_rivals}
use Rattle.run_model.specs.Books.{posted, outcome_entry, entries_for, book, post_in, posts_in}
use Rattle.run_model.specs.Books.{AreCounted, IsSound, Begins, IsFirstBad}

---- The posts of a book are those that it was made of.

no_post : (x : Post) (past : List Post) (o : Option Outcome) →
    filter_map post_in (option_to_list (outcome_entry x past o)) ≡ []
no_post x past None = refl
no_post x past (Some v) = refl

posts_for : (wall : ChineseWall) (x : Post) (past : List Post) →
    filter_map post_in (entries_for wall x past) ≡ x ∷ []
posts_for wall x past = ap (λ ps. x ∷ ps) (no_post x past (outcome wall x past))

pub posts_in-append : (xs ys : List Entry) → posts_in (xs ++ ys) ≡ posts_in ys ++ posts_in xs
posts_in-append xs ys = ap (λ (ps : List Post). reverse ps) (filter_map-append post_in xs ys)
    ∙ reverse-append (filter_map post_in xs) (filter_map post_in ys)

pub posts_in-book : (wall : ChineseWall) (past : List Post) → posts_in (book wall past) ≡ past
posts_in-book wall [] = refl
posts_in-book wall (x ∷ past) =
    posts_in-append (book wall past) (entries_for wall x past)
    ∙ (ap (λ (ps : List Post). reverse ps ++ posts_in (book wall past)) (posts_for wall x past)
    ∙ ap (λ ps. x ∷ ps) (posts_in-book wall past))

pub book_is_sound : (wall : ChineseWall) (past : List Post) → AreCounted wall past →
    IsSound wall (book wall past)
book_is_sound wall past taken =
    let same = sym (posts_in-book wall past) in
    record {
      posts = subst (λ ps. AreCounted wall ps) same taken;
      given = ap (λ ps. book wall ps) same;
    }

---- What a sound book begins with is given by its own posts.

-- the posts of these entries count and give all of them, and perhaps one more
pub record AreGiven (wall : ChineseWall) (entries : List Entry) : Type 0 where
  pub posts : AreCounted wall (posts_in entries)
  pub rest : List Entry
  pub given : entries ++ rest ≡ book wall (posts_in entries)

-- the prefix of a joined list is a prefix of the first part, or goes on into the second
prefix_of : (xs rest as' bs : List Entry) → xs ++ rest ≡ as' ++ bs → ((r : List Entry)
    × (xs ++ r ≡ as')) ⊎ ((ys : List Entry) × (xs ≡ as' ++ ys) × (ys ++ rest ≡ bs))
prefix_of xs rest [] bs e = inr (xs, refl, e)
prefix_of [] rest (a ∷ as') bs e = inl (a ∷ as', refl)
prefix_of (x ∷ xs) rest (a ∷ as') bs e =
    let head : x ≡ a = cc in
    let tail : xs ++ rest ≡ as' ++ bs = cc in
    ⊎_elim
    (λ (h : (r : List Entry) × (xs ++ r ≡ as')). inl (h.0, cc))
    (λ (h : (ys : List Entry) × (xs ≡ as' ++ ys) × (ys ++ rest ≡ bs)). inr (h.0, cc, h.2))
    (prefix_of xs rest as' bs tail)

-- a prefix of what one post gives is nothing, the post, or all of it
given_prefix : (x : Post) (o : Option Entry) (ys rest : List Entry) →
    ys ++ rest ≡ posted x ∷ option_to_list o →
    (ys ≡ []) ⊎ ((ys ≡ posted x ∷ []) ⊎ (ys ≡ posted x ∷ option_to_list o))
given_prefix x o [] rest e = inl refl
given_prefix x o (y ∷ []) rest e = inr (inl (let h : y ≡ posted x = cc in ap (λ z. z ∷ []) h))
given_prefix x None (y ∷ z ∷ ys) rest e = absurd (cc)
given_prefix x (Some v) (y ∷ z ∷ []) rest e =
    inr (inr (let h : y ≡ posted x = cc in let k : z ≡ v = cc in cc))
given_prefix x (Some v) (y ∷ z ∷ w ∷ ys) rest e = absurd (cc)

post_only : (wall : ChineseWall) (x : Post) (past : List Post) →
    posts_in (book wall past ++ posted x ∷ []) ≡ x ∷ past
post_only wall x past =
    posts_in-append (book wall past) (posted x ∷ []) ∙ ap (λ ps. x ∷ ps) (posts_in-book wall past)

pub given_of_book : (wall : ChineseWall) (past : List Post) (entries rest : List Entry) →
    AreCounted wall past → entries ++ rest ≡ book wall past → AreGiven wall entries
given_of_book wall [] [] rest taken e = record { posts = tt; rest = []; given = refl }
given_of_book wall [] (x ∷ entries) rest taken e = absurd (cc)
given_of_book wall (x ∷ past) entries rest taken e = ⊎_elim
    (λ (h : (r : List Entry) × (entries ++ r ≡ book wall past)).
    given_of_book wall past entries h.0 taken.0 h.1)
    (λ (h : (ys : List Entry) × (entries ≡ book wall past ++ ys)
    × (ys ++ rest ≡ entries_for wall x past)). subst (AreGiven wall) (sym h.1) (⊎_elim
    (λ none. subst (λ ys. AreGiven wall (book wall past ++ ys)) (sym none)
    (subst (AreGiven wall) (sym (append-nil (book wall past)))
    (record {
      posts = subst (AreCounted wall) (sym (posts_in-book wall past)) taken.0;
      rest = [];
      given = append-nil (book wall past)
          ∙ ap (book wall) (sym (posts_in-book wall past));
    })))
    (λ some. ⊎_elim
    (λ one. subst (λ ys. AreGiven wall (book wall past ++ ys)) (sym one)
    (record {
      posts = subst (AreCounted wall) (sym (post_only wall x past)) taken;
      rest = option_to_list (outcome_entry x past (outcome wall x past));
      given = append_assoc (book wall past) (posted x ∷ [])
          (option_to_list (outcome_entry x past (outcome wall x past)))
          ∙ ap (book wall) (sym (post_only wall x past));
    }))
    (λ all. subst (λ ys. AreGiven wall (book wall past ++ ys)) (sym all)
    (record {
      posts = subst (AreCounted wall) (sym (posts_in-book wall (x ∷ past))) taken;
      rest = [];
      given =
          append-nil (book wall (x ∷ past)) ∙ ap (book wall) (sym (posts_in-book wall (x ∷ past)));
    }))
    some)
    (given_prefix x (outcome_entry x past (outcome wall x past)) h.0 rest h.2)))
    (prefix_of entries rest (book wall past) (entries_for wall x past) e)

pub begins_given : (wall : ChineseWall) (entries : List Entry) → Begins wall entries →
    AreGiven wall entries
begins_given wall entries h =
    given_of_book wall (posts_in (entries ++ h.0)) entries h.0 h.1.posts h.1.given

pub given_begins : (wall : ChineseWall) (entries : List Entry) → AreGiven wall entries →
    Begins wall entries
given_begins wall entries h =
    (h.rest, subst (IsSound wall) (sym h.given) (book_is_sound wall (posts_in entries) h.posts))

---- The first bad entry.

split_at : (n : ℕ) (xs : List Entry) → take n xs ++ drop n xs ≡ xs
split_at n xs = take-append-drop n xs

-- a sound book begins with fewer of the entries
pub begins_fewer : (wall : ChineseWall) (entries : List Entry) (n : ℕ) → Begins wall entries →
    Begins wall (take n entries)
begins_fewer wall entries n h = (
  drop n entries ++ h.0,
  subst (IsSound wall) (sym (sym (append_assoc (take n entries) (drop n entries) h.0)
      ∙ ap (λ xs. xs ++ h.0) (split_at n entries))) h.1,
)

pub sound_begins : (wall : ChineseWall) (entries : List Entry) → IsSound wall entries →
    Begins wall entries
sound_begins wall entries sound = ([], subst (IsSound wall) (sym (append-nil entries)) sound)

pub no_bad_entry : (wall : ChineseWall) (entries : List Entry) (n : ℕ) → IsSound wall entries →
    IsFirstBad wall entries n → ⊥
no_bad_entry wall entries n sound bad = ⊎_elim
    (λ (low : n ≤ length entries).
    bad.wrong low (begins_fewer wall entries n (sound_begins wall entries sound)))
    (λ (high : n ≡ length entries + 1). bad.missing high sound)
    (where_is n (length entries) bad.within)
  where
    where_is : (n l : ℕ) → n ≤ l + 1 → (n ≤ l) ⊎ (n ≡ l + 1)
    where_is n l h =
        ⊎_elim (λ (high : l < n). inr (omega arith)) (λ (low : n ≤ l). inl low) (cases_lt l n)

-- the entries before a first bad one are right, so no lower one is bad
not_lower : (wall : ChineseWall) (entries : List Entry) (n m : ℕ) → IsFirstBad wall entries n →
    IsFirstBad wall entries m → n < m → ⊥
not_lower wall entries n m one other low =
    let within = other.within in
    let less : n ≤ m - 1 = omega arith in
    one.wrong (omega arith) (subst (Begins wall) (shorter n (m - 1) entries less)
    (begins_fewer wall (take (m - 1) entries) n other.before))
  where
    shorter : (n m : ℕ) (xs : List Entry) → n ≤ m → take n (take m xs) ≡ take n xs
    shorter n m xs h = take-take n m xs h

pub first_is_one : (wall : ChineseWall) (entries : List Entry) (n m : ℕ) →
    IsFirstBad wall entries n → IsFirstBad wall entries m → n ≡ m
first_is_one wall entries n m one other = ⊎_elim
    (λ (low : n < m). absurd (not_lower wall entries n m one other low))
    (λ (high : m ≤ n). ⊎_elim
    (λ (low : m < n). absurd (not_lower wall entries m n other one low))
    (λ (le : n ≤ m). omega arith)
    (cases_lt m n))
    (cases_lt n m)

pub books_of_posts_are_sound : BooksOfPostsAreSound
books_of_posts_are_sound wall past taken = (book_is_sound wall past taken, posts_in-book wall past)

---- Words.

pub before_seam : (xs ys : List Entry) (i : ℕ) → i < length xs →
    slice_get (xs ++ ys) i ≡ slice_get xs i
before_seam [] ys i h = absurd (omega arith)
before_seam (x ∷ xs) ys zero h = refl
before_seam (x ∷ xs) ys (suc i) h = before_seam xs ys i (omega arith)

pub after_seam : (xs ys : List Entry) (i k : ℕ) → i ≡ length xs + k →
    slice_get (xs ++ ys) i ≡ slice_get ys k
after_seam [] ys i k e = ap (slice_get ys) (let z : i ≡ k = omega arith in z)
after_seam (x ∷ xs) ys zero k e = absurd (omega arith)
after_seam (x ∷ xs) ys (suc i) k e = after_seam xs ys i k (omega arith)

only_post : (x : Post) (past : List Post) (o : Option Outcome) (k p c : ℕ) (s : Stated) →
    slice_get (posted x ∷ option_to_list (outcome_entry x past o)) k ≡ Some (Posted p c s) →
    (k ≡ 0) × (x.process ≡ p) × (x.stated ≡ s)
only_post x past o zero p c s e = (refl, cc, cc)
only_post x past None (suc k) p c s e = absurd (cc)
only_post x past (Some v) (suc zero) p c s e = absurd (cc)
only_post x past (Some v) (suc (suc k)) p c s e = absurd (cc)

-- an entry of a book that is a post stands behind the book of the posts before it
word_at : (wall : ChineseWall) (past : List Post) (i p c : ℕ) (s : Stated) → AreCounted wall past →
    slice_get (book wall past) i ≡ Some (Posted p c s) →
    s.barred ≡ not (star (histories wall (posts_in (take i (book wall past)))) p s.label)
word_at wall [] i p c s taken at = absurd (cc)
word_at wall (x ∷ past) i p c s taken at = ⊎_elim
    (λ (low : i < length (book wall past)).
    let old : slice_get (book wall past) i ≡ Some (Posted p c s) = sym
    (before_seam (book wall past) (entries_for wall x past) i low) ∙ at in
    word_at wall past i p c s taken.0 old
    ∙ ap (λ es. not (star (histories wall (posts_in es)) p s.label))
    (sym (take-append-le i (book wall past) (entries_for wall x past) (omega arith))))
    (λ (high : length (book wall past) ≤ i).
    let new : slice_get (entries_for wall x past) (i - length (book wall past)) ≡ Some
    (Posted p c s) = sym (after_seam (book wall past) (entries_for wall x past) i
    (i - length (book wall past)) (omega arith)) ∙ at in
    let is = only_post x past (outcome wall x past) (i - length (book wall past)) p c s new in
    let i_is : i ≡ length (book wall past) = omega (arith, is.0, high) in
    let prefix : take i (book wall past ++ entries_for wall x past) ≡ book wall past = ap
    (λ n. take n (book wall past ++ entries_for wall x past)) i_is ∙ take-append_seam
    (book wall past) (entries_for wall x past) in
    let label : x.stated ≡ s = is.2 in
    ap (λ (t : Stated). t.barred) (sym label) ∙ (taken.1.word
    ∙ (ap (λ q. not (star (histories wall past) q x.stated.label)) is.1
    ∙ (ap (λ (t : Stated). not (star (histories wall past) p t.label)) label
    ∙ ap (λ es. not (star (histories wall es) p s.label))
    (sym (ap posts_in prefix ∙ posts_in-book wall past))))))
    (cases_lt i (length (book wall past)))

pub words_are_of_the_star_rule : WordsAreOfTheStarRule
words_are_of_the_star_rule wall entries i p c s sound at =
    let there : slice_get (book wall (posts_in entries)) i ≡ Some (Posted p c s) = ap
    (λ es. slice_get es i) (sym sound.given) ∙ at in
    word_at wall (posts_in entries) i p c s sound.posts there
    ∙ (ap (λ es. not (star (histories wall (posts_in (take i es))) p s.label)) (sym sound.given)
    ∙ ap (λ n. not (star (histories wall (posts_in (take n entries))) p s.label))
    (let z : i ≡ i + 1 - 1 = omega arith in z))

---- What was held.

-- the posts of a book are those of its first entries, and then others
pub older_posts : (entries : List Entry) (n : ℕ) →
    posts_in (drop n entries) ++ posts_in (take n entries) ≡ posts_in entries
older_posts entries n =
    sym (posts_in-append (take n entries) (drop n entries)) ∙ ap posts_in (split_at n entries)

pub sound_books_keep_the_wall : SoundBooksKeepTheWall
sound_books_keep_the_wall wall entries policy sound n =
    let older = posts_in (take (n - 1) entries) in
    let later = posts_in (drop (n - 1) entries) in
    let counts : AreCounted wall (later ++ older) =
    subst (AreCounted wall) (sym (older_posts entries (n - 1))) sound.posts in
    record {
      apart = nobody_holds_two_rivals wall later older policy counts;
      held = holding_is_history wall later older counts;
    }
