use Rattle.rg_desk.proofs.desk.reply_to.Goals as goal

pub say-reply-requires-clause-shown : goal.say-reply-requires-clause-shown
say-reply-requires-clause-shown g c = c.requires.shown c.if-down.false
