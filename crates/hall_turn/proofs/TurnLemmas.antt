-- A turn, step by step, for the seat that takes it.
use Rattle.std.proofs.Common.{◌≡◌, ◌≢◌, ◌↔◌, ℕ, Bool, true, false, List, [], ◌∷◌, Option, Some}
use Rattle.std.proofs.Common.{refl, sym, ap}
use Rattle.std.proofs.Common.{◌∙◌, subst, IsTrue}
use Rattle.atomic_table.specs.Table.{Me, Step, rest}
use Rattle.wall_policy.specs.Policy.{ChineseWall}
use Rattle.run_model.specs.declared.call.Call.{Call}
use Rattle.run_model.specs.declared.reply.Reply.{Reply}
use Rattle.run_model.specs.Runs.{Entry, entry}
use Rattle.run_model.specs.Replies.{Legal}
use Rattle.hall_turn.specs.Runs.{Continues, calls_of}
use Rattle.hall_turn.specs.Known.{Doorway}
use Rattle.hall_turn.specs.Answers.{SeesOn, EntersAnd}
use Rattle.hall_turn.specs.Machines.{Carries, Settles}
use Rattle.hall_turn.specs.Views.{SeatView, saw, drawn, declared, served}
use Rattle.hall_turn.specs.Steps.{Looks, HoldsMachine, MayCarryOut, Turned, TellsAfter, IsReady}
use Rattle.hall_turn.specs.Steps.{IsIdle}
use Rattle.hall_turn.proofs.RunLemmas.{continues_self, continues_trans, calls_of-own}

-- the view m, of a seat that had the view v and has looked since, with its ticket not served
pub record Waits {M : Type 0} (v : SeatView) (m : Me (Option M) SeatView) : Type 0 where
  pub is : m ≡ (saw v m.0.seen false, [])
  pub begins : Continues m.0.seen v.seen
  pub own : calls_of v.process v.seen ≡ calls_of v.process m.0.seen

module _ {M : Type 0} where
  first_value : Option M → List (ℕ × Option M) → Option M
  first_value d [] = d
  first_value d (x ∷ xs) = x.1

  pub waits_none : (m : Me (Option M) SeatView) → m.0.out ≡ false → m.0.told ≡ [] → m.1 ≡ [] →
      Waits m.0 m
  waits_none m out told slots = record {
    is = λ i. (record m.0 { told = told i; out = out i }, slots i);
    begins = continues_self m.0.seen;
    own = refl;
  }

module _ {M : Type 0} (stands : ChineseWall → M → List Entry → Type 0) where
  pub away : (v : SeatView) (t r : ℕ) (st : Step (Option M)) (m m' : Me (Option M) SeatView) →
      v.ticket ≡ Some t → Waits v m → Looks stands st m r m' → r ≢ t → Waits v m'
  away v t r st m m' ticket w l ne =
      let view = ap (λ (x : Me (Option M) SeatView). x.0) w.is in
      let mine : m.0.ticket ≢ Some r = λ e. ne
      (cc (ap (λ (x : SeatView). x.ticket) view, ticket, e)) in
      let process = ap (λ (x : SeatView). x.process) view in record {
        is = l.2 mine ∙ (λ i. (saw (w.is i).0 m'.0.seen false, (w.is i).1));
        begins = continues_trans m'.0.seen m.0.seen v.seen l.0.begins w.begins;
        own = w.own ∙ subst (λ n. calls_of n m.0.seen ≡ calls_of n m'.0.seen) process l.0.own;
      }

  pub found : (v : SeatView) (t r : ℕ) (st : Step (Option M)) (m m' : Me (Option M) SeatView) →
      v.ticket ≡ Some t → Waits v m → Looks stands st m r m' → r ≡ t → HoldsMachine stands v m'
  found v t r st m m' ticket w l same =
      let view = ap (λ (x : Me (Option M) SeatView). x.0) w.is in
      let mine : m.0.ticket ≡ Some r = ap (λ (x : SeatView). x.ticket) view ∙ ticket ∙ ap Some
      (sym same) in
      let process = ap (λ (x : SeatView). x.process) view in
      let policy = ap (λ (x : SeatView). x.policy) view in
      let took = l.1 mine in record {
        run = m'.0.seen;
        machine = took.0;
        is = took.1 ∙ (λ i. (saw (w.is i).0 m'.0.seen true, (0, Some took.0) ∷ (w.is i).1));
        seen = record {
          begins = continues_trans m'.0.seen m.0.seen v.seen l.0.begins w.begins;
          own = w.own ∙ subst (λ n. calls_of n m.0.seen ≡ calls_of n m'.0.seen) process l.0.own;
          legal = subst (λ x. Legal x m'.0.seen) policy l.0.legal;
        };
        stood = subst (λ x. stands x took.0 m'.0.seen) policy took.2;
      }

  pub holds_one : (v : SeatView) (m : Me (Option M) SeatView) → HoldsMachine stands v m
      → (old : Option M) × (m.1 ≡ (0, old) ∷ rest m.1)
  holds_one v m f = let e = ap (λ (x : Me (Option M) SeatView). x.1) f.is in
      (Some f.machine, e ∙ ap (λ l. (0, Some f.machine) ∷ rest l) (sym e))

  pub was_machine : (v : SeatView) (m : Me (Option M) SeatView) (old : Option M)
      → (f : HoldsMachine stands v m) → m.1 ≡ (0, old) ∷ rest m.1 → old ≡ Some f.machine
  unfolding first_value
  was_machine v m old f e = let a = ap (λ (x : Me (Option M) SeatView). x.1) f.is in
      ap (first_value (Some f.machine)) (sym e ∙ a)

  -- what the machine in the slot is asked in its turn is what it can answer
  pub may_apply : (v : SeatView) (m1 m2 : Me (Option M) SeatView) (old : Option M)
      → (May : ChineseWall → Type 0) → m1.0.policy ≡ v.policy → HoldsMachine stands m1.0 m2
      → m2.1 ≡ (0, old) ∷ rest m2.1 → May v.policy
      → (machine : M) × (old ≡ Some machine) × MayCarryOut stands machine May
  may_apply v m1 m2 old May policy holds in_slot may = (
    holds.machine,
    was_machine m1.0 m2 old holds in_slot,
    (
      v.policy,
      holds.run,
      subst (λ p. Legal p holds.run) policy holds.seen.legal,
      subst (λ p. stands p holds.machine holds.run) policy holds.stood,
      may,
    ),
  )

  -- what is known of what it told
  pub tells_after : (v : SeatView) (m1 m2 : Me (Option M) SeatView) (old : Option M)
      → (Told : ChineseWall → List Entry → Type 0) → m1.0.policy ≡ v.policy
      → (holds : HoldsMachine stands m1.0 m2) → m2.1 ≡ (0, old) ∷ rest m2.1
      → ((h : M) (wall : ChineseWall) (run : List Entry) → old ≡ Some h → Legal wall run
      → stands wall h run → Told wall run)
      → (last : Entry) (seen : List Entry) → seen ≡ last ∷ holds.run →
      TellsAfter seen (Told v.policy)
  tells_after v m1 m2 old Told policy holds in_slot told last seen is e run also =
      let same : holds.run ≡ run = cc (is, also) in
      subst (Told v.policy) same (told holds.machine v.policy holds.run
      (was_machine m1.0 m2 old holds in_slot)
      (subst (λ p. Legal p holds.run) policy holds.seen.legal)
      (subst (λ p. stands p holds.machine holds.run) policy holds.stood))

  -- before the turn ends
  pub ready :
      (v : SeatView) (t : ℕ) (m1 m2 m3 m4 : Me (Option M) SeatView) (in_slot after : Option M)
      → (call : Call) (reply : Reply)
      → m1 ≡ (drawn v t, []) → HoldsMachine stands m1.0 m2 → m2.1 ≡ (0, in_slot) ∷ rest m2.1
      → m3 ≡ (m2.0, (0, after) ∷ rest m2.1)
      → m4 ≡ (declared m3.0 (entry call reply), m3.1)
      → call.process ≡ v.process → v.joined ≡ []
      → (old : M) × (new : M) × (in_slot ≡ Some old) × (after ≡ Some new)
      × Carries stands old new call reply
      → IsReady stands m4
  ready v t m1 m2 m3 m4 in_slot after call reply draws holds slot writes declares by joined carries
      =
      let e = entry call reply in
      let h = carries.0 in
      let h' = carries.1 in
      let same : holds.machine ≡ h = cc (was_machine m1.0 m2 in_slot holds slot, carries.2) in
      let target : Me (Option M) SeatView =
      (declared (saw (drawn v t) holds.run true) e, (0, Some h') ∷ []) in
      let is : m4 ≡ target =
      declares
      ∙ (λ i. (declared (writes i).0 e, (writes i).1))
      ∙ (λ i. (declared (holds.is i).0 e, (0, carries.3 i) ∷ rest (holds.is i).1))
      ∙ (λ i. (declared (saw (draws i).0 holds.run true) e, (0, Some h') ∷ [])) in
      let policy : m1.0.policy ≡ v.policy = λ i. (draws i).0.policy in
      let more = carries.4 v.policy holds.run
      (subst (λ p. Legal p holds.run) policy holds.seen.legal)
      (subst (λ x. stands v.policy x holds.run) same
      (subst (λ p. stands p holds.machine holds.run) policy holds.stood)) in
      subst (IsReady stands) (sym is) (record {
        entry = e;
        machine = h';
        out = refl;
        said = refl;
        held = refl;
        joined = joined;
        by = by;
        legal = more.0;
        stood = more.1;
      })

  -- the machine that carried it out, at the end of the turn
  pub stood_after : (v : SeatView) (m1 m2 m3 m4 m5 : Me (Option M) SeatView)
      (in_slot after : Option M) (call : Call) (reply : Reply) (IsNoted : M → Type 0)
      → m1.0.policy ≡ v.policy → HoldsMachine stands m1.0 m2 → m2.1 ≡ (0, in_slot) ∷ rest m2.1
      → m3 ≡ (m2.0, (0, after) ∷ rest m2.1)
      → m4 ≡ (declared m3.0 (entry call reply), m3.1)
      → (e : Entry) × (m4.0.said ≡ Some e) × (m5 ≡ (served m4.0 e, []))
      → (old : M) × (new : M) × (in_slot ≡ Some old) × (after ≡ Some new)
      × Carries stands old new call reply
      → ((new : M) → after ≡ Some new → IsNoted new)
      → (machine : M) × stands v.policy machine m5.0.seen × IsNoted machine
  stood_after v m1 m2 m3 m4 m5 in_slot after call reply IsNoted policy holds slot writes
      declares serves carries books =
      let same : holds.machine ≡ carries.0 = cc (was_machine m1.0 m2 in_slot holds slot, carries.2)
      in
      let more = carries.4 v.policy holds.run
      (subst (λ p. Legal p holds.run) policy holds.seen.legal)
      (subst (λ x. stands v.policy x holds.run) same
      (subst (λ p. stands p holds.machine holds.run) policy holds.stood)) in
      let said : m4.0.said ≡ Some (entry call reply) = λ i. (declares i).0.said in
      let its : serves.0 ≡ entry call reply = cc (said, serves.1) in
      let seen : m4.0.seen ≡ holds.run =
      (λ i. (declares i).0.seen) ∙ (λ i. (writes i).0.seen) ∙ (λ i. (holds.is i).0.seen) in
      let is : m5.0.seen ≡ entry call reply ∷ holds.run =
      (λ i. (serves.2 i).0.seen) ∙ (λ i. its i ∷ seen i) in (
        carries.1,
        subst (stands v.policy carries.1) (sym is) more.1,
        books carries.1 carries.3,
      )

  -- a look of a seat between two calls
  pub sees_on : (door d : Doorway) (p : ℕ) (b b' k k' : Bool) (r : ℕ) (st : Step (Option M))
      (m m' : Me (Option M) SeatView) → IsIdle p m → Looks stands st m r m'
      →
      SeesOn (record { door = door; process = p; seen = m.0.seen; settled = b; booked = k })
      (record { door = d; process = p; seen = m'.0.seen; settled = b'; booked = k' })
  sees_on door d p b b' k k' r st m m' idle l =
      record {
        begins = l.0.begins;
        own =
            sym (subst (λ n. calls_of n m.0.seen ≡ calls_of n m'.0.seen) idle.process_is
            l.0.own);
      }

  -- what a deed that was carried out does
  pub carried : (door d : Doorway) (p : ℕ) (b b' k k' : Bool) (e : Entry)
      (Tells : ChineseWall → List Entry → Type 0) (r : ℕ) (st : Step (Option M))
      (m m1 m2 : Me (Option M) SeatView)
      → door.policy ≡ m.0.policy → e.call.process ≡ p
      → IsIdle p m → Looks stands st m r m1 → Turned m1.0 e m2.0
      → TellsAfter m2.0.seen (Tells m1.0.policy)
      → EntersAnd (record { door = door; process = p; seen = m.0.seen; settled = b; booked = k }) e
      (Tells door.policy)
      (record { door = d; process = p; seen = m2.0.seen; settled = b'; booked = k' })
  carried door d p b b' k k' e Tells r st m m1 m2 wall by idle l t tells =
      let saw_it = l.2 (λ (x : m.0.ticket ≡ Some r). cc (idle.ticket, x)) in
      let policy : m1.0.policy ≡ door.policy = (λ i. (saw_it i).0.policy) ∙ sym wall in
      let process : m1.0.process ≡ p = (λ i. (saw_it i).0.process) ∙ idle.process_is in
      let own : calls_of p m.0.seen ≡ calls_of p m1.0.seen =
      subst (λ n. calls_of n m.0.seen ≡ calls_of n m1.0.seen) idle.process_is l.0.own in
      let next : calls_of p m1.0.seen ≡ calls_of p t.run =
      subst (λ n. calls_of n m1.0.seen ≡ calls_of n t.run) process t.before.own in record {
        enters = record {
          front = t.run;
          ends = t.seen_is;
          begins = continues_trans t.run m1.0.seen m.0.seen t.before.begins l.0.begins;
          own = ap (calls_of p) t.seen_is ∙ calls_of-own p t.run e by
              ∙ ap (λ x. e ∷ x) (sym (own ∙ next));
        };
        so = subst (λ w. Tells w t.run) policy (tells e t.run t.seen_is);
      }

  -- what the pass says after a turn of whether that settled an instance
  pub says_whether : (b : Bool) (e : Entry) (m1 m2 : Me (Option M) SeatView) → Turned m1.0 e m2.0
      → TellsAfter m2.0.seen (λ run. IsTrue b ↔ Settles m1.0.policy run e)
      → (last : Entry) (run : List Entry) → m2.0.seen ≡ last ∷ run
      → IsTrue b ↔ Settles m2.0.policy run last
  says_whether b e m1 m2 t tells last run is =
      let same : e ≡ last = cc (t.seen_is, is) in
      subst (λ x. IsTrue b ↔ Settles m2.0.policy run x) same
      (subst (λ w. IsTrue b ↔ Settles w run e) (sym t.policy_is) (tells last run is))
