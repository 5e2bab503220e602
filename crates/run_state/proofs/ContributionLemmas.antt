-- One more post, with its part.
use Rattle.std.proofs.Common.{◌≡◌, ◌≢◌, ℕ, List, [], ◌∷◌, ◌++◌, refl}
use Rattle.std.proofs.Common.{true, false, ◌&&◌, eq-eqb, ne_eqb}
use Rattle.std.specs.Prelude.{◌==◌}
use Rattle.std.proofs.lemmas.Bool.{and_from, and_left, and_right, cond-true, cond-false}
use Rattle.run_model.specs.Posts.{Post, posts_on}
use Rattle.run_model.specs.Contributions.{Contribution, parts_on}
use Rattle.run_state.proofs.RowLemmas.{Grows}

own_test : (x : Post) → (x.comm == x.comm && x.process == x.process) ≡ true
own_test x = and_from (x.comm == x.comm) (x.process == x.process) (eq-eqb x.comm x.comm refl)
    (eq-eqb x.process x.process refl)

other_test : (x : Post) (m : ℕ) → x.process ≢ m → (x.comm == x.comm && x.process == m) ≡ false
other_test x m apart = and_right (x.comm == x.comm) (x.process == m) (ne_eqb x.process m apart)

pub posts-grow : (x : Post) (posts : List Post) →
    Grows (λ m. posts_on x.comm m posts) (λ m. posts_on x.comm m (x ∷ posts)) x.process x.stated
posts-grow x posts = record {
  own = cond-true (x.comm == x.comm && x.process == x.process)
      (posts_on x.comm x.process posts ++ x.stated ∷ []) (posts_on x.comm x.process posts)
      (own_test x);
  others = λ m apart. cond-false (x.comm == x.comm && x.process == m)
      (posts_on x.comm m posts ++ x.stated ∷ []) (posts_on x.comm m posts) (other_test x m apart);
}

pub posts-elsewhere : (c m : ℕ) (x : Post) (posts : List Post) → x.comm ≢ c →
    posts_on c m (x ∷ posts) ≡ posts_on c m posts
posts-elsewhere c m x posts apart = cond-false (x.comm == c && x.process == m)
    (posts_on c m posts ++ x.stated ∷ []) (posts_on c m posts)
    (and_left (x.comm == c) (x.process == m) (ne_eqb x.comm c apart))

pub parts-grow : {X : Type 0} (g : Contribution X) (past : List (Contribution X)) →
    Grows (λ m. parts_on g.post.comm m past) (λ m. parts_on g.post.comm m (g ∷ past)) g.post.process
    g.part
parts-grow g past = record {
  own = cond-true (g.post.comm == g.post.comm && g.post.process == g.post.process)
      (parts_on g.post.comm g.post.process past ++ g.part ∷ [])
      (parts_on g.post.comm g.post.process past) (own_test g.post);
  others = λ m apart. cond-false (g.post.comm == g.post.comm && g.post.process == m)
      (parts_on g.post.comm m past ++ g.part ∷ []) (parts_on g.post.comm m past)
      (other_test g.post m apart);
}

pub parts-elsewhere : {X : Type 0} (c m : ℕ) (g : Contribution X) (past : List (Contribution X)) →
    g.post.comm ≢ c → parts_on c m (g ∷ past) ≡ parts_on c m past
parts-elsewhere c m g past apart = cond-false (g.post.comm == c && g.post.process == m)
    (parts_on c m past ++ g.part ∷ []) (parts_on c m past)
    (and_left (g.post.comm == c) (g.post.process == m) (ne_eqb g.post.comm c apart))
