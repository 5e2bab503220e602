use Rattle.std.proofs.Common.{ap, ◌∙◌, refl, Some}
use Rattle.chain_file.specs.Reading.{Begins, by_said, words_of}
use Rattle.chain_file.specs.Text.{text_of}
use Rattle.chain_file.specs.Words.{spaced}
use Rattle.chain_file.proofs.LineLemmas.{begun_says, long_line}
use Rattle.chain_file.proofs.TextLemmas.{heads_more, good_head, bad_head, begins_after}
use Rattle.chain_file.proofs.TextLemmas.{other_head, same_head}
use Rattle.chain_file.proofs.KnownLemmas.{begun_fits, said_known}
use Rattle.chain_file.proofs.StepLemmas.{took_fault, took_chain}
use Rattle.chain_file.proofs.walk.Walk.take_begun.Goals as goal

pub due-due-requires : goal.due-due-requires
due-due-requires c =
    let begun = c.in-Some.ensures.begun in
    let head = c.in-Some.begun.head.now in
    long_line c.args.line.now head (Begins begun)
    (begun_says c.args.line.now c.args.words.now begun head c.requires c.in-Some.ensures.said)

pub returns-then-ne : goal.returns-then-ne
returns-then-ne c = λ chain read.
    let begun = c.in-Some.ensures.begun in
    let head = c.in-Some.begun.head.now in
    let says = begun_says c.args.line.now c.args.words.now begun head c.requires
    c.in-Some.ensures.said in
    took_fault _ _ _ (ap (by_said chain c.args.number) c.in-Some.ensures.said
    ∙ bad_head chain (record { ended = chain.ended; under_way = Some begun }) c.args.number
    (Begins begun) head c.due-due.result
    (begins_after chain begun c.args.self.now.is_open read.open_is c.if-self.false)
    (c.due-due.ensures.head (text_of chain) (spaced (words_of (Begins begun))) head
    read.heads.holds says.is says.long)
    (other_head head c.as_slice.result.now c.due-due.result c.ne.result c.ne.ensures c.if-ne.true
    c.as_slice.ensures))

pub returns : goal.returns
returns c = λ chain read.
    let begun = c.in-Some.ensures.begun in
    let head = c.in-Some.begun.head.now in
    let says = begun_says c.args.line.now c.args.words.now begun head c.requires
    c.in-Some.ensures.said in
    let after = begins_after chain begun c.args.self.now.is_open read.open_is c.if-self.false in
    let due_is = c.due-due.ensures.head (text_of chain) (spaced (words_of (Begins begun))) head
    read.heads.holds says.is says.long in
    let taken = c.due-due.ensures.taken (text_of chain) (spaced (words_of (Begins begun))) head
    read.heads.holds says.is says.long in
    let known = said_known chain (Begins begun) (record { ended = chain.ended; under_way = Some begun })
    read.heads.known (begun_fits c.args.words.now (Begins begun) head c.in-Some.ensures.said) after in
    took_chain _ (record { ended = chain.ended; under_way = Some begun }) _
    (ap (by_said chain c.args.number) c.in-Some.ensures.said
    ∙ good_head chain (record { ended = chain.ended; under_way = Some begun }) c.args.number
    (Begins begun) head c.due-due.result after due_is
    (same_head head c.as_slice.result.now c.due-due.result c.ne.result c.ne.ensures c.if-ne.false
    c.as_slice.ensures)) (record {
      kept = c.begin.ensures chain begun read.kept c.in-Some.ensures.by_policy
          c.in-Some.ensures.by_digest c.in-Some.ensures.by_book;
      open_is = refl;
      heads = heads_more chain (Begins begun)
          (record { ended = chain.ended; under_way = Some begun }) c.due-due.new.heads
          c.due-due.result known after due_is taken;
    })
