use Rattle.std.proofs.Common.{refl, sym, ◌∙◌, ap, inl, inr, slice_index}
use Rattle.chain_file.specs.Reading.{escaped_then, spelled_in}
use Rattle.chain_file.proofs.SpellLemmas.{front_plain, front_none, front_escape, escape_is}
use Rattle.chain_file.proofs.SpellLemmas.{escape_not}
use Rattle.chain_file.proofs.path.front.Goals as goal

pub returns-then-is_plain-clause-byte : goal.returns-then-is_plain-clause-byte
returns-then-is_plain-clause-byte c = front_plain c.args.word.now c.split_at.result.1.now
    (slice_index c.args.word.now 0) c.requires refl c.split_at.ensures.back
    (sym c.is_plain.ensures ∙ c.if-is_plain.true)

pub returns-then-word-ne37-clause-byte : goal.returns-then-word-ne37-clause-byte
returns-then-word-ne37-clause-byte c = front_none c.args.word.now c.split_at.result.1.now
    (slice_index c.args.word.now 0) c.requires refl c.split_at.ensures.back
    (sym c.is_plain.ensures ∙ c.if-is_plain.false) (inl c.if-word-ne37.true)

pub returns-then-rest-lt2-clause-byte : goal.returns-then-rest-lt2-clause-byte
returns-then-rest-lt2-clause-byte c = front_none c.args.word.now c.split_at.result.1.now
    (slice_index c.args.word.now 0) c.requires refl c.split_at.ensures.back
    (sym c.is_plain.ensures ∙ c.if-is_plain.false) (inr c.if-rest-lt2.true)

pub returns-then-is_plain-2-clause-byte : goal.returns-then-is_plain-2-clause-byte
returns-then-is_plain-2-clause-byte c = front_escape c.args.word.now c.split_at.result.1.now
    c.split_at-2.result.0.now c.split_at-2.result.1.now (slice_index c.args.word.now 0)
    c.requires refl c.split_at.ensures.back c.if-word-ne37.false c.if-rest-lt2.false
    c.split_at-2.ensures.front c.split_at-2.ensures.back
    ∙ ap (λ o. escaped_then o (spelled_in c.split_at-2.result.1.now)) c.in-Some.ensures
    ∙ escape_not c.in-Some.byte (spelled_in c.split_at-2.result.1.now)
    (sym c.is_plain-in-Some.ensures ∙ c.if-is_plain-2.true)

pub returns-in-None-clause-byte : goal.returns-in-None-clause-byte
returns-in-None-clause-byte c = front_escape c.args.word.now c.split_at.result.1.now
    c.split_at-2.result.0.now c.split_at-2.result.1.now (slice_index c.args.word.now 0)
    c.requires refl c.split_at.ensures.back c.if-word-ne37.false c.if-rest-lt2.false
    c.split_at-2.ensures.front c.split_at-2.ensures.back
    ∙ ap (λ o. escaped_then o (spelled_in c.split_at-2.result.1.now)) c.in-None.ensures

pub returns-else-is_plain-2-clause-byte : goal.returns-else-is_plain-2-clause-byte
returns-else-is_plain-2-clause-byte c = front_escape c.args.word.now c.split_at.result.1.now
    c.split_at-2.result.0.now c.split_at-2.result.1.now (slice_index c.args.word.now 0)
    c.requires refl c.split_at.ensures.back c.if-word-ne37.false c.if-rest-lt2.false
    c.split_at-2.ensures.front c.split_at-2.ensures.back
    ∙ ap (λ o. escaped_then o (spelled_in c.split_at-2.result.1.now)) c.in-Some.ensures
    ∙ escape_is c.in-Some.byte (spelled_in c.split_at-2.result.1.now)
    (sym c.is_plain-in-Some.ensures ∙ c.if-is_plain-2.false)
