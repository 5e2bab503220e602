-- Serving that began, and serving that did not.
use Rattle.std.proofs.Common.{◌≡◌, ◌≢◌, ◌↔◌, ◌∙◌, inl, inr, ℕ, List, [], length, Option, Some, None}
use Rattle.std.proofs.Common.{refl, sym, subst}
use Rattle.std.specs.Io.KnownBytes.{Appends}
use Rattle.wall_policy.specs.Policy.{ChineseWall}
use Rattle.run_model.specs.Comms.{processes}
use Rattle.run_model.specs.Runs.{Entry}
use Rattle.hall_turn.specs.declared.head.Head.{Head}
use Rattle.hall_turn.specs.Receipts.{Covered, Extent, IsHeadAt}
use Rattle.live_book.specs.declared.unbooked.Unbooked.{Unbooked}
use Rattle.live_book.specs.declared.unbooked.Unbooked.TheVariants as unbookeds
use Rattle.hall_script.specs.Devices.{used}
use Rattle.program_commands.specs.Serving.{WritesBook}
use Rattle.live_book.specs.Books.{HasCome, IsWritten, SinkValue, book_of, text_so_far, unless_cut}
use Rattle.live_session.specs.declared.peer.Peer.{Peer}
use Rattle.live_session.specs.declared.run.ServeFault.{ServeFault}
use Rattle.live_session.specs.declared.run.ServeFault.TheVariants as serves
use Rattle.program_commands.specs.declared.ending.Ending.{Ending}
use Rattle.live_session.specs.declared.peer.Session.{Session}
use Rattle.live_session.specs.Hearing.{DeskLog}
use Rattle.program_commands.specs.declared.ending.Ending.TheVariants.{BadArguments}
use Rattle.program_commands.specs.Serving.{serve_ending, IsUnserved, ServeEnds, first_line, book_ending}
use Rattle.program_commands.specs.Serving.{IsHeadOf, ReceiptsCoverTheBook}

module _ {S O B : Type 0} (spoilt : B → ℕ) (kept : B → Option (List ℕ)) (wall : ChineseWall)
    (peers : List (Peer S O)) where
  gone : (book : Option B) (fault : ServeFault) → length peers ≡ processes wall →
      (fault ≡ serves.BadPeers) ↔ (length peers ≢ processes wall) →
      IsUnserved spoilt kept wall peers book None (serve_ending fault)
  gone book serves.BadPeers same is = absurd (is.0 refl same)
  gone book serves.NoThread same is = (same, refl)
  gone book serves.NoMemory same is = (same, inl refl)

  -- a thread or memory was refused, and the writer of a book was let go
  pub let_go : (book back : Option B) (fault : ServeFault) (ending : Ending) (count : ℕ) →
      count ≡ length peers → count ≡ processes wall →
      (fault ≡ serves.BadPeers) ↔ (count ≢ processes wall) → back ≡ None →
      ending ≡ serve_ending fault → IsUnserved spoilt kept wall peers book back ending
  let_go book back fault ending count long same is none so =
      let is' = subst (λ n. (fault ≡ serves.BadPeers) ↔ (n ≢ processes wall)) long is in
      rw so (rw none (gone book fault (sym long ∙ same) is'))

  -- the first line of the book was not written
  pub unopened : (old new : B) (back : Option B) (fault : Unbooked) →
      length peers ≡ processes wall → back ≡ Some new →
      WritesBook (used spoilt kept old new) (first_line wall) (book_ending fault) →
      IsUnserved spoilt kept wall peers (Some old) back (book_ending fault)
  unopened old new back unbookeds.Write same is w = (same, (old, new, refl, is, w))
  unopened old new back unbookeds.NoMemory same is w = (same, inr (old, new, refl, is, w))
  unopened old new back unbookeds.TooLong same is w = (same, (old, new, refl, is, w))

module _ {S O B : Type 0} (fails : S → ℕ) (left : S → Option (List ℕ))
    (heard : S → DeskLog) (failures : O → ℕ) (contents : O → Option (List ℕ))
    (spoilt : B → ℕ) (kept lasting : B → Option (List ℕ)) (most : Option ℕ) (wall : ChineseWall)
    (peers : List (Peer S O)) where
  -- there are not devices for each process, and no others
  pub misfit : (book back : Option B) (sessions : List (Session S O)) →
      length peers ≢ processes wall → back ≡ book → sessions ≡ [] →
      ServeEnds fails left heard failures contents spoilt kept lasting most wall peers book sessions
      back
      BadArguments
  misfit None back sessions other same none = inl ((other, same), none)
  misfit (Some old) back sessions other same none = inl ((other, same), none)

-- what a writer has that has the book so far
covers_by : (wall : ChineseWall) (begun sink : SinkValue) (far : Extent) (fault : Option Unbooked)
    (run : List Entry) (covers : Covered) → IsWritten wall begun sink fault run →
    Some covers ≡ unless_cut fault (record { contents = sink.contents; extent = Some far }) →
    Appends begun.contents covers.contents (text_so_far wall (book_of wall run))
covers_by wall begun sink far None run covers w is =
    let same : covers ≡ record { contents = sink.contents; extent = Some far } = cc in
    subst (λ (k : Covered). Appends begun.contents k.contents
    (text_so_far wall (book_of wall run))) (sym same) w.written
covers_by wall begun sink far (Some fault) run covers w is = absurd cc

-- the head that is told of it
head_at : (wall : ChineseWall) (far : Extent) (run : List Entry) (head : Option Head) →
    HasCome wall far run → IsHeadAt (Some far) head → IsHeadOf wall run head
head_at wall far run None come is = absurd is
head_at wall far run (Some head) come (entries, digest) = (
  entries ∙ come.entries,
  digest (text_so_far wall (book_of wall run)) come.holds,
)

head_by : (wall : ChineseWall) (sink : SinkValue) (far : Extent) (fault : Option Unbooked)
    (run : List Entry) (covers : Covered) (head : Option Head) →
    (fault ≡ None → HasCome wall far run) →
    Some covers ≡ unless_cut fault (record { contents = sink.contents; extent = Some far }) →
    IsHeadAt covers.extent head → IsHeadOf wall run head
head_by wall sink far None run covers head come is at =
    let same : covers ≡ record { contents = sink.contents; extent = Some far } = cc in
    head_at wall far run head (come refl)
    (subst (λ (k : Covered). IsHeadAt k.extent head) same at)
head_by wall sink far (Some fault) run covers head come is at = absurd cc

pub receipts_cover : ReceiptsCoverTheBook
receipts_cover begun wall run covers (machine, (stands, same), is) = (
  subst (λ (v : SinkValue). Appends v.contents covers.contents
      (text_so_far wall (book_of wall run))) same
      (covers_by wall machine.begun machine.sink machine.extent machine.fault run covers
      stands.book is),
  λ head at. head_by wall machine.sink machine.extent machine.fault run covers head stands.extent is
      at,
)
