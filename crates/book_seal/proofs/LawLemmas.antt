-- A text has one seal, and a whole book is its own.
use Rattle.std.proofs.Common.{◌≡◌, ℕ, eqb, false, List, [], ◌∷◌, ◌++◌, length, Ok, sym, ap, ◌∙◌}
use Rattle.std.proofs.Common.{append_assoc}
use Rattle.std.specs.List.{join_with_byte}
use Rattle.std.proofs.lemmas.List.{append-nil}
use Rattle.std.proofs.lemmas.List.Elements.{All-nil}
use Rattle.wall_policy.specs.Policy.{ChineseWall}
use Rattle.run_model.specs.declared.entry.Entry.{Entry}
use Rattle.run_model.specs.Books.{book, posts_in, IsSound}
use Rattle.audit_book.specs.Text.{line_of, end_words, header_words, entry_lines, book_text}
use Rattle.audit_book.specs.Reading.{book_in}
use Rattle.audit_book.proofs.AuditBookLemmas.{book_found}
use Rattle.book_seal.specs.Seals.{finished, IsSealOf}
use Rattle.book_seal.proofs.FinishedLemmas.{finished_up_to}
use Rattle.book_seal.proofs.BegunLemmas.{whole_told}

pub one_seal : (wall : ChineseWall) (text one other : List ℕ) → IsSealOf wall text one →
    IsSealOf wall text other → one ≡ other
one_seal wall text one other h k =
    let same : h.entries ≡ k.entries =
    h.sound.given ∙ ap (book wall) (h.posts ∙ sym k.posts) ∙ sym k.sound.given in
    book_found wall one h.entries h.read ∙ ap (book_text wall) same
    ∙ sym (book_found wall other k.entries k.read)

-- the text of a book without its last byte
abbrev most_of : ChineseWall → List Entry → List ℕ
most_of wall es = line_of (header_words wall.version)
    ++ (entry_lines wall es ++ join_with_byte 32 (end_words (length es)))

ends_so : (wall : ChineseWall) (es : List Entry) →
    book_text wall es ≡ most_of wall es ++ (10 ∷ [])
unfolding book_text
ends_so wall es =
    let end = join_with_byte 32 (end_words (length es)) in
    let head = line_of (header_words wall.version) in
    ap (λ t. head ++ t) (sym (append_assoc (entry_lines wall es) end (10 ∷ [])))
    ∙ sym (append_assoc head (entry_lines wall es ++ end) (10 ∷ []))

pub own_seal : (wall : ChineseWall) (text : List ℕ) (es : List Entry) →
    book_in wall text ≡ Ok es → IsSound wall es → IsSealOf wall text text
own_seal wall text es read sound =
    let same : text ≡ most_of wall es ++ (10 ∷ []) =
    book_found wall text es read ∙ ends_so wall es in
    let whole : finished text ≡ text = ap finished same
    ∙ finished_up_to (most_of wall es) [] (All-nil (λ b. eqb b 10 ≡ false)) ∙ sym same in
    record {
      entries = es;
      read = read;
      sound = sound;
      posts = ap posts_in (sym (whole_told wall text es (ap (book_in wall) whole ∙ read)));
      prefix = ([], append-nil (finished text) ∙ whole);
    }
