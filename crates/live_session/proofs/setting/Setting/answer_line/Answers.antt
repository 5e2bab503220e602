use Rattle.live_session.proofs.setting.Setting.answer_line.Goals as goal

pub returns-in-Err-send-clause-answers : goal.returns-in-Err-send-clause-answers
returns-in-Err-send-clause-answers g c =
    λ bytes h. (
      c.in-Ok.next,
      c.put_answer.new.lines.text.items,
      (c.in-Ok.ensures.puts bytes h, c.show_receipt.ensures.shows),
      (c.in-Err-send.ensures.failed, c.in-Err-send.ensures.prefix),
    )
