use Rattle.std.proofs.Common.{ap, ◌∙◌, refl, [], ◌∷◌, ◌++◌, None}
use Rattle.chain_file.specs.Reading.{Ends, by_said, words_of}
use Rattle.chain_file.specs.Text.{text_of}
use Rattle.chain_file.specs.Words.{spaced}
use Rattle.chain_file.proofs.LineLemmas.{ended_says, long_line}
use Rattle.chain_file.proofs.TextLemmas.{heads_more, good_head, bad_head, last_of, ends_after}
use Rattle.chain_file.proofs.TextLemmas.{other_head, same_head}
use Rattle.chain_file.proofs.KnownLemmas.{ended_fits, said_known}
use Rattle.chain_file.proofs.StepLemmas.{took_fault, took_chain}
use Rattle.chain_file.proofs.walk.Walk.take_ended.Goals as goal

pub due-due-requires : goal.due-due-requires
due-due-requires c =
    let digest = c.in-Some.ended.book_digest in
    let head = c.in-Some.ended.head.now in
    long_line c.args.line.now head (Ends digest)
    (ended_says c.args.line.now c.args.words.now digest head c.requires c.in-Some.ensures.said)

pub returns-then-ne : goal.returns-then-ne
returns-then-ne c = λ chain read.
    let digest = c.in-Some.ended.book_digest in
    let head = c.in-Some.ended.head.now in
    let says = ended_says c.args.line.now c.args.words.now digest head c.requires
    c.in-Some.ensures.said in
    let last = last_of chain c.args.self.now.is_open read.open_is c.if-not-self.false in
    took_fault _ _ _ (ap (by_said chain c.args.number) c.in-Some.ensures.said
    ∙ bad_head chain (record {
      ended = chain.ended ++ (record { begun = last.0; book_digest = digest } ∷ []);
      under_way = None;
    }) c.args.number (Ends digest) head c.due-due.result (ends_after chain digest last.0 last.1)
    (c.due-due.ensures.head (text_of chain) (spaced (words_of (Ends digest))) head
    read.heads.holds says.is says.long)
    (other_head head c.as_slice.result.now c.due-due.result c.ne.result c.ne.ensures c.if-ne.true
    c.as_slice.ensures))

pub returns : goal.returns
returns c = λ chain read.
    let digest = c.in-Some.ended.book_digest in
    let head = c.in-Some.ended.head.now in
    let says = ended_says c.args.line.now c.args.words.now digest head c.requires
    c.in-Some.ensures.said in
    let last = last_of chain c.args.self.now.is_open read.open_is c.if-not-self.false in
    let after = ends_after chain digest last.0 last.1 in
    let due_is = c.due-due.ensures.head (text_of chain) (spaced (words_of (Ends digest))) head
    read.heads.holds says.is says.long in
    let taken = c.due-due.ensures.taken (text_of chain) (spaced (words_of (Ends digest))) head
    read.heads.holds says.is says.long in
    let known = said_known chain (Ends digest) (record {
      ended = chain.ended ++ (record { begun = last.0; book_digest = digest } ∷ []);
      under_way = None;
    })
    read.heads.known (ended_fits c.args.words.now (Ends digest) head c.in-Some.ensures.said) after in
    took_chain _ (record {
      ended = chain.ended ++ (record { begun = last.0; book_digest = digest } ∷ []);
      under_way = None;
    }) _ (ap (by_said chain c.args.number) c.in-Some.ensures.said
    ∙ good_head chain (record {
      ended = chain.ended ++ (record { begun = last.0; book_digest = digest } ∷ []);
      under_way = None;
    }) c.args.number (Ends digest) head c.due-due.result after due_is
    (same_head head c.as_slice.result.now c.due-due.result c.ne.result c.ne.ensures c.if-ne.false
    c.as_slice.ensures)) (record {
      kept = c.end.ensures chain last.0 read.kept last.1;
      open_is = refl;
      heads = heads_more chain (Ends digest) (record {
        ended = chain.ended ++ (record { begun = last.0; book_digest = digest } ∷ []);
        under_way = None;
      }) c.due-due.new.heads c.due-due.result known after due_is taken;
    })
