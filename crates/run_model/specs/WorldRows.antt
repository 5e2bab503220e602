-- Worked pairs of lists of calls with their replies, under `banks_and_oil`.
use Rattle.std.specs.Prelude.{ℕ, List, Bool, map, reverse, take}
use Rattle.run_model.specs.declared.call.Act.TheVariants.{Take}
use Rattle.run_model.specs.declared.reply.Reply.{Reply}
use Rattle.run_model.specs.Runs.{Entry}
use Rattle.run_model.specs.RunRows.{banks_and_oil, listed_posts, sanitised_sum}
use Rattle.run_model.specs.Worlds.{AreTwoWorlds, AreAlikeOutside, CannotTell, is_spared}

-- the lists, in the order in which their calls were made, are two worlds
abbrev pub Worlds : (one other : List Entry) → Type 0
Worlds one other = AreTwoWorlds banks_and_oil (reverse one) (reverse other)

-- they are alike outside dataset d
abbrev pub Alike : (d : ℕ) → (one other : List Entry) → Type 0
Alike d one other = AreAlikeOutside banks_and_oil d (reverse one) (reverse other)

-- process p can't tell them apart, but for sanitised results of d
abbrev pub LookAlike : (d p : ℕ) → (one other : List Entry) → Type 0
LookAlike d p one other = CannotTell banks_and_oil d p (reverse one) (reverse other)

-- what was answered, in order
abbrev pub replies_in : List Entry → List Reply
replies_in entries = map (λ (e : Entry). e.reply) entries

-- what p is delivered of the sanitised sum, after its four posts, is spared for alpha
abbrev pub sum_is_spared : (p : ℕ) → Bool
sum_is_spared p = is_spared banks_and_oil (listed_posts (take 4 sanitised_sum)) 0 p (Take 0)
