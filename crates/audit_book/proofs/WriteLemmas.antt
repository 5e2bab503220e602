-- The lines of a book's entries, of which some are written.
use Rattle.std.proofs.Common.{◌≡◌, ℕ, ◌+◌, ◌^◌, ◌<◌, List, [], ◌∷◌, ◌++◌, length, get_or, take}
use Rattle.std.proofs.Common.{drop}
use Rattle.std.proofs.Common.{Option, Some, slice_get, Ok, refl, sym, ap, subst, ◌∙◌, append_assoc}
use Rattle.std.proofs.Common.{arith}
use Rattle.std.specs.Prelude.{All, unwrap_or}
use Rattle.std.proofs.lemmas.List.{append-nil, take-append-drop, take_more, flat_map_more}
use Rattle.std.proofs.lemmas.List.Elements.{All-more, recursion_from_All}
use Rattle.std.proofs.lemmas.Option.{slice_get_within, unwrap_or-slice_get}
use Rattle.std.proofs.lemmas.Grind.{flat_map-append}
use Rattle.std.specs.Io.KnownBytes.{Appends}
use Rattle.wall_labels.specs.Known.{AppendsPrefix}
use Rattle.wall_policy.specs.Policy.{ChineseWall, IsPolicy}
use Rattle.run_model.specs.declared.entry.Entry.{Entry}
use Rattle.audit_book.specs.Text.{line_of, entry_words, header_words, end_words, entry_lines}
use Rattle.audit_book.specs.Text.{book_text}
use Rattle.audit_book.specs.Reading.{book_in}
use Rattle.audit_book.specs.Laws.{IsSpelled}
use Rattle.coll_text.specs.Writing.{Moves}
use Rattle.coll_text.proofs.CollTextLemmas.{moves_more, moves_then, moves_stop, moves_break}
use Rattle.coll_text.proofs.CollTextLemmas.{moves_end}
use Rattle.audit_book.proofs.TextAgainLemmas.{book_again}

at_place : (es : List Entry) (i : ℕ) (e : Entry) → slice_get es i ≡ Some e → e ≡ get_or es i e
at_place es i e h = sym (ap (λ (o : Option Entry). unwrap_or o e) h) ∙ unwrap_or-slice_get es i e

-- one more of the entries is spelled
pub spelled_more : (wall : ChineseWall) (es : List Entry) (i : ℕ) (e : Entry) →
    slice_get es i ≡ Some e → IsSpelled wall e → All (IsSpelled wall) (take i es) →
    All (IsSpelled wall) (take (i + 1) es)
spelled_more wall es i e at one all =
    All-more (IsSpelled wall) es i e (slice_get_within es i e at) all
    (subst (IsSpelled wall) (at_place es i e at) one)

abbrev line : ChineseWall → Entry → List ℕ
line wall e = line_of (entry_words wall e)

module _ (wall : ChineseWall) (es : List Entry) (text : List ℕ) where
  -- behind this text the first so many lines
  abbrev lines : ℕ → List ℕ
  lines i = text ++ entry_lines wall (take i es)

  abbrev all : List ℕ
  all = text ++ entry_lines wall es

  lines_split : (i : ℕ) → lines i ++ entry_lines wall (drop i es) ≡ all
  lines_split i =
      append_assoc text (entry_lines wall (take i es)) (entry_lines wall (drop i es))
      ∙ ap (λ (t : List ℕ). text ++ t) (sym (flat_map-append (line wall) (take i es) (drop i es))
      ∙ ap (entry_lines wall) (take-append-drop i es))

  lines_more : (i : ℕ) (e : Entry) → slice_get es i ≡ Some e →
      lines i ++ line wall e ≡ lines (i + 1)
  lines_more i e at =
      flat_map_more (line wall) text (take i es) e
      ∙ ap (λ (ls : List Entry). text ++ entry_lines wall ls)
      (ap (λ (x : Entry). take i es ++ (x ∷ [])) (at_place es i e at)
      ∙ sym (take_more es i e (slice_get_within es i e at)))

  -- nothing more is written
  pub stops : (a b : Option (List ℕ)) (i : ℕ) (now : List ℕ) → Moves a b (lines i) now →
      AppendsPrefix a b all
  stops a b i now m =
      moves_stop a b (lines i) now (entry_lines wall (drop i es)) all m (lines_split i)

  module _ (a b c : Option (List ℕ)) (i : ℕ) (e : Entry) (now mid : List ℕ)
      (at : slice_get es i ≡ Some e) (m : Moves a b (lines i) now)
      (put : mid ≡ now ++ line wall e) where
    one_more : Moves a b (lines (i + 1)) mid
    one_more = subst (λ (t : List ℕ). Moves a b t mid) (lines_more i e at)
        (moves_more a b (lines i) now mid (line wall e) m put)

    -- a line more was put behind the text, of which a prefix is written
    pub breaks : AppendsPrefix b c mid → AppendsPrefix a c all
    breaks n = moves_break a b c (lines (i + 1)) mid (entry_lines wall (drop (i + 1) es)) all
        one_more n (lines_split (i + 1))

    -- of which a prefix is written and the rest is left
    pub goes_on : (new : List ℕ) → Moves b c mid new → Moves a c (lines (i + 1)) new
    goes_on new n = moves_then a b c (lines (i + 1)) mid new one_more n

-- ---- the whole book: begun has its header, and whole its end too

prefix_more : (a b : Option (List ℕ)) (bytes more whole : List ℕ) → AppendsPrefix a b bytes →
    bytes ++ more ≡ whole → AppendsPrefix a b whole
prefix_more a b bytes more whole f e = (
  f.0,
  f.1 ++ more,
  sym (append_assoc f.0 f.1 more) ∙ ap (λ (t : List ℕ). t ++ more) f.2 ∙ e,
  f.3,
)

module _ (wall : ChineseWall) (es : List Entry) (empty begun : List ℕ) (none : empty ≡ [])
    (header : begun ≡ empty ++ line_of (header_words wall.version)) where
  abbrev last : List ℕ
  last = line_of (end_words (length es))

  whole_is : (begun ++ entry_lines wall es) ++ last ≡ book_text wall es
  unfolding book_text
  whole_is =
      append_assoc begun (entry_lines wall es) last
      ∙ ap (λ (t : List ℕ). t ++ (entry_lines wall es ++ last))
      (header ∙ ap (λ (t : List ℕ). t ++ line_of (header_words wall.version)) none)

  pub book_broken : (a b : Option (List ℕ)) → AppendsPrefix a b (begun ++ entry_lines wall es) →
      AppendsPrefix a b (book_text wall es)
  book_broken a b f =
      prefix_more a b (begun ++ entry_lines wall es) last (book_text wall es) f whole_is

  module _ (a b : Option (List ℕ)) (now : List ℕ)
      (m : Moves a b (begun ++ entry_lines wall es) now) where
    pub book_stopped : AppendsPrefix a b (book_text wall es)
    book_stopped =
        moves_stop a b (begun ++ entry_lines wall es) now last (book_text wall es) m whole_is

    module _ (c : Option (List ℕ)) (n : ℕ) (number : n ≡ length es) (new : List ℕ)
        (put : new ≡ now ++ line_of (end_words n)) where
      whole_moves : Moves a b (book_text wall es) new
      whole_moves =
          subst (λ (t : List ℕ). Moves a b t new) whole_is
          (moves_more a b (begun ++ entry_lines wall es) now new last m
          (put ∙ ap (λ (n : ℕ). now ++ line_of (end_words n)) number))

      pub book_written : Appends b c new → Appends a c (book_text wall es)
      book_written h =
          moves_end a b c (book_text wall es) new (book_text wall es) whole_moves h refl

      pub book_cut_off : AppendsPrefix b c new → AppendsPrefix a c (book_text wall es)
      book_cut_off f = moves_break a b c (book_text wall es) new [] (book_text wall es) whole_moves
          f (append-nil (book_text wall es))

-- ---- what was written is read again

pub book_is_again : (wall : ChineseWall) (es : List Entry) → IsPolicy wall →
    All (IsSpelled wall) es → length es < 2 ^ 62 → book_in wall (book_text wall es) ≡ Ok es
book_is_again wall es policy spelled few =
    book_again wall policy es (recursion_from_All (IsSpelled wall) es spelled) (omega arith)
