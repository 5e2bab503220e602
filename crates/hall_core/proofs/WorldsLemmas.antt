-- Calls that are equal but for values, in two runs of them.
use Rattle.std.proofs.Common.{◌≡◌, List, [], ◌∷◌, ◌++◌, length, map, sym, arith, subst}
use Rattle.std.specs.List.{zip, AllZip}
use Rattle.std.proofs.lemmas.List.{reverse-append}
use Rattle.std.proofs.lemmas.List.Elements.{AllZip-push}
use Rattle.wall_policy.specs.Policy.{ChineseWall}
use Rattle.run_model.specs.declared.call.Call.{Call}
use Rattle.run_model.specs.declared.reply.Reply.{Reply}
use Rattle.run_model.specs.Runs.{Entry, entry, run_of, entry_of}
use Rattle.run_model.specs.Replies.{Legal}
use Rattle.run_model.specs.Worlds.{SameCallButForValues, SameCallsButForValues, AreTwoWorlds}
use Rattle.run_model.specs.Worlds.{ValuesDecideNothing, WhoHoldsNothingLearnsNothing}
use Rattle.hall_core.specs.Worlds.{DifferInValues, OneWallIn, CannotTellIn}

last_entry : (calls : List Call) (replies : List Reply) (call : Call) (given : Reply) →
    run_of calls replies ++ entry call given ∷ [] ≡ run_of (call ∷ calls) (given ∷ replies)
last_entry calls replies call given =
    sym (reverse-append (entry call given ∷ []) (map entry_of (zip calls replies)))

-- the runs of such calls, with any replies
same_runs : (calls others : List Call) (replies told : List Reply) → length replies ≡ length calls →
    length told ≡ length others → AllZip SameCallButForValues calls others →
    SameCallsButForValues (run_of calls replies) (run_of others told)
same_runs [] [] replies told r t same = tt
same_runs [] (b ∷ others) replies told r t same = absurd same
same_runs (a ∷ calls) [] replies told r t same = absurd same
same_runs (a ∷ calls) (b ∷ others) [] told r t same = absurd (cc)
same_runs (a ∷ calls) (b ∷ others) (g ∷ replies) [] r t same = absurd (cc)
same_runs (a ∷ calls) (b ∷ others) (g ∷ replies) (h ∷ told) r t same =
    let rest = same_runs calls others replies told (let e : length replies ≡ length calls =
    omega (arith, r) in e) (let e : length told ≡ length others = omega (arith, t) in e) same.1
    in
    let R : Entry → Entry → Type 0 = λ e f. SameCallButForValues e.call f.call in
    let more : AllZip R (run_of calls replies ++ entry a g ∷ [])
    (run_of others told ++ entry b h ∷ []) =
    AllZip-push R (run_of calls replies) (run_of others told) (entry a g) (entry b h) rest
    same.0 in
    subst (λ es. AllZip R es (run_of (b ∷ others) (h ∷ told))) (last_entry calls replies a g)
    (subst (λ es. AllZip R (run_of calls replies ++ entry a g ∷ []) es)
    (last_entry others told b h) more)

-- what the laws of two worlds say of two lists of calls, each with its replies
module _ (wall : ChineseWall) (calls others : List Call) (replies told : List Reply)
    (first : Legal wall (run_of calls replies)) (second : Legal wall (run_of others told))
    (each : length replies ≡ length calls) (every : length told ≡ length others) where
  worlds : DifferInValues calls others replies told →
      AreTwoWorlds wall (run_of calls replies) (run_of others told)
  worlds differ = record {
    first = first;
    second = second;
    first_memory = differ.first_memory;
    second_memory = differ.second_memory;
    calls = same_runs calls others replies told each every differ.calls;
  }

  pub values_decide_nothing_in : ValuesDecideNothing →
      OneWallIn wall calls others replies told
  values_decide_nothing_in law differ =
      law wall (run_of calls replies) (run_of others told) (worlds differ)

  pub who_holds_nothing_learns_nothing_in : WhoHoldsNothingLearnsNothing →
      CannotTellIn wall calls others replies told
  who_holds_nothing_learns_nothing_in law differ d p low values apart =
      law wall (run_of calls replies) (run_of others told) d p low
      (record { worlds = worlds differ; values = values }) apart
