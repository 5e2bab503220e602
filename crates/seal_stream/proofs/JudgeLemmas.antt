-- What is judged of entries stays so, or goes on by one line.
use Rattle.std.proofs.Common.{◌≡◌, ℕ, ◌+◌, List, [], ◌∷◌, ◌++◌, length}
use Rattle.std.proofs.Common.{Option, Some, None, sym, ap, subst, ◌∙◌, append_assoc}
use Rattle.std.specs.Prelude.{◌≤◌, ◌^◌, is_none}
use Rattle.wall_policy.specs.Policy.{ChineseWall}
use Rattle.run_model.specs.declared.entry.Entry.{Entry}
use Rattle.run_model.specs.Books.{IsFirstBad}
use Rattle.coll_text.specs.Numbers.{Word}
use Rattle.std.specs.List.{join_with_byte}
use Rattle.audit_book.specs.Text.{end_words}
use Rattle.audit_book.specs.declared.audit.Audit.{Audit}
use Rattle.audit_book.specs.declared.check_fault.BookFault.{BookFault}
use Rattle.audit_book.specs.declared.check_fault.BookFault.TheVariants.{BadEntry, NoMemory}
use Rattle.audit_book.specs.Dues.{IsDueBehind, IsFaultWithin}
use Rattle.audit_book.specs.Audits.{HasSeen}
use Rattle.audit_book.proofs.AuditBookLemmas.{within_more, none_missing, one_missing}
use Rattle.book_stream.specs.Readings.{SayEntries}
use Rattle.seal_stream.specs.declared.reading.Stage.TheVariants as stages
use Rattle.seal_stream.specs.Steps.{IsUnspoilt, IsSpoilt, IsJudged, IsWrongAt, StepsTo, kept_if}

module _ (wall : ChineseWall) (lines kept : List Word) (line : Word) (entries : List Entry) where
  -- ---- behind an entry

  -- entries that are spoilt stay so
  pub spoilt_more : (old new : Audit) (fault : BookFault) (said : Entry) → new ≡ old →
      IsSpoilt wall stages.Entry old fault lines kept entries →
      IsSpoilt wall stages.Entry new fault (lines ++ line ∷ []) kept (entries ++ said ∷ [])
  spoilt_more old new fault said same h = record {
    front = h.front;
    more = h.more ++ line ∷ [];
    whole = ap (λ (ls : List Word). ls ++ line ∷ []) h.whole ∙ append_assoc kept h.more (line ∷ []);
    say = h.say;
    few = h.few;
    seen = subst (λ a. HasSeen wall a h.front) (sym same) h.seen;
    wrong = within_more wall entries (said ∷ []) fault h.wrong;
  }

  module _ (say : SayEntries wall lines entries) (few : length entries ≤ 2 ^ 62) (old : Audit)
      (h : IsUnspoilt wall stages.Entry old lines kept entries) where
    kept_say : SayEntries wall kept entries
    kept_say = subst (λ (ls : List Word). SayEntries wall ls entries) (sym h.all) say

    -- memory ran out in reading the line
    pub lacks_spoils : (new : Audit) (said : Entry) → new ≡ old →
        IsSpoilt wall stages.Entry new NoMemory (lines ++ line ∷ []) kept (entries ++ said ∷ [])
    lacks_spoils new said same = record {
      front = entries;
      more = line ∷ [];
      whole = ap (λ (ls : List Word). ls ++ line ∷ []) (sym h.all);
      say = kept_say;
      few = few;
      seen = subst (λ a. HasSeen wall a entries) (sym same) h.seen;
      wrong = tt;
    }

    pub steps : (new : Audit) (r : Option BookFault) (said : Entry) →
        StepsTo wall new r entries said → IsJudged wall stages.Entry new r (lines ++ line ∷ [])
        (kept_if (is_none r) kept line) (entries ++ said ∷ [])
    steps new None said s = record {
      all = ap (λ (ls : List Word). ls ++ line ∷ []) h.all;
      seen = s;
    }
    steps new (Some fault) said s = record {
      front = entries;
      more = line ∷ [];
      whole = ap (λ (ls : List Word). ls ++ line ∷ []) (sym h.all);
      say = kept_say;
      few = few;
      seen = s.0;
      wrong = s.1;
    }

    -- ---- behind the end

    pub end_stands : (told : Option Entry) → told ≡ None → IsDueBehind wall entries told →
        line ≡ join_with_byte 32 (end_words (length entries)) →
        IsUnspoilt wall stages.Ended old (lines ++ line ∷ []) kept entries
    end_stands told none due end = record {
      all = (
        kept_say,
        none_missing wall entries told none due,
        (λ i. sym h.all i ++ end i ∷ []),
      );
      seen = h.seen;
    }

    pub end_lacks : (told : Option Entry) (e : Entry) → told ≡ Some e →
        IsDueBehind wall entries told → (n : ℕ) → n ≡ length entries + 1 →
        IsSpoilt wall stages.Ended old (BadEntry n) (lines ++ line ∷ []) kept entries
    end_lacks told e one due n number = record {
      front = entries;
      more = line ∷ [];
      whole = ap (λ (ls : List Word). ls ++ line ∷ []) (sym h.all);
      say = kept_say;
      few = few;
      seen = h.seen;
      wrong = subst (IsFirstBad wall entries) (sym number) (one_missing wall entries told e one due);
    }

  wrong_at_end : (fault : BookFault) → IsFaultWithin wall entries fault →
      IsWrongAt wall stages.Ended entries fault
  wrong_at_end (BadEntry n) h = h.0
  wrong_at_end NoMemory h = tt

  pub spoilt_at_end : (audit : Audit) (fault : BookFault) →
      IsSpoilt wall stages.Entry audit fault lines kept entries →
      IsSpoilt wall stages.Ended audit fault (lines ++ line ∷ []) kept entries
  spoilt_at_end audit fault h = record {
    front = h.front;
    more = h.more ++ line ∷ [];
    whole = ap (λ (ls : List Word). ls ++ line ∷ []) h.whole ∙ append_assoc kept h.more (line ∷ []);
    say = h.say;
    few = h.few;
    seen = h.seen;
    wrong = wrong_at_end fault h.wrong;
  }
