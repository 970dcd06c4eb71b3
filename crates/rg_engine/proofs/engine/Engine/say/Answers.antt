use Rattle.std.proofs.Common.{List, length, drop, refl, ap, sym, ◌∙◌, arith, length-append}
use Rattle.std.specs.FinMap as map
use Rattle.rg_model.specs.Claims.{is_kept_out}
use Rattle.rg_engine.proofs.Answering.{done_answers, drained_answers, drained_asks, drained_needs}
use Rattle.rg_engine.proofs.Answering.{other_asks, refused_answers, still_admitted}
use Rattle.rg_laws_utility.specs.RecordChanges.Changed.{changes_in, rows_after}
use Rattle.rg_feed.specs.Ends.{sent_items}
use Rattle.rg_record.specs.declared.record.Record.{Record}
use Rattle.rg_stmt.specs.declared.stmt.Reply.TheVariants.{NoMemory}
use Rattle.rg_engine.specs.declared.engine.Engine.{Engine}
use Rattle.rg_engine.proofs.Readying.{none_sent, not_commit, ok_done, own_writes, rows_ready}
use Rattle.rg_engine.proofs.Statements.{go_wanting_here}
use Rattle.rg_engine.proofs.engine.Engine.say.Goals as goal

pub register-requires-clause-admitted : goal.register-requires-clause-admitted
register-requires-clause-admitted g c =
    let st = c.requires.shown.state in
    let allowed = c.requires.shown.allowed in
    let shows = c.requires.shown.shows in
    still_admitted st allowed c.args.self.now shows c.args.session c.args.stmt.now
    c.answer_over-reply.result c.answer_over-reply.new.self
    (c.answer_over-reply.ensures.steps st allowed shows)
    (ap
    (is_kept_out c.args.self.now.claims.drain
    (map.get c.args.self.now.claims.claims c.args.session.0)) (sym c.class_of-class.ensures)
    ∙ sym c.is_drained.ensures ∙ c.if-is_drained.false)
    _ c.class_of-class.ensures
    (ok_done c.answer_over-reply.result (sym c.is_ok.ensures ∙ c.if-is_ok.true))

-- a drain keeps the statement out

pub returns-then-is_drained-clause-answers : goal.returns-then-is_drained-clause-answers
returns-then-is_drained-clause-answers g c = λ st allowed shows.
    drained_answers st allowed c.args.self.now shows c.args.session c.args.stmt.now _
    c.class_of-class.ensures (sym c.is_drained.ensures ∙ c.if-is_drained.true)

pub returns-then-is_drained-clause-asks : goal.returns-then-is_drained-clause-asks
returns-then-is_drained-clause-asks g c =
    drained_asks c.args.self.now c.args.session c.args.stmt.now _
    (drained_needs c.args.self.now c.args.session c.args.stmt.now _ c.class_of-class.ensures
    (sym c.is_drained.ensures ∙ c.if-is_drained.true))

-- there is no memory for what is to be sent

pub returns-in_default-clause-answers : goal.returns-in_default-clause-answers
returns-in_default-clause-answers g c = λ st allowed shows.
    refused_answers st allowed c.args.self.now shows c.args.session c.args.stmt.now NoMemory
    c.args.self.now
    (go_wanting_here st allowed c.args.self.now shows c.args.session c.args.stmt.now
    (not_commit c.args.stmt.now c.in_default.ensures.err))
    (ap
    (is_kept_out c.args.self.now.claims.drain
    (map.get c.args.self.now.claims.claims c.args.session.0)) (sym c.class_of-class.ensures)
    ∙ sym c.is_drained.ensures ∙ c.if-is_drained.false)
    refl

pub returns-in_default-clause-asks : goal.returns-in_default-clause-asks
returns-in_default-clause-asks g c =
    other_asks c.args.self.now c.requires.shown c.args.session c.args.stmt.now NoMemory
    c.args.self.now _ c.in_default.ensures.err
    (λ st allowed shows. go_wanting_here st allowed c.args.self.now shows c.args.session
    c.args.stmt.now (not_commit c.args.stmt.now c.in_default.ensures.err))

-- it is answered OK

pub returns-then-is_ok-clause-answers : goal.returns-then-is_ok-clause-answers
returns-then-is_ok-clause-answers g c = λ st allowed shows.
    done_answers st allowed c.args.self.now shows c.args.session c.args.stmt.now
    c.answer_over-reply.result c.answer_over-reply.new.self
    (c.answer_over-reply.ensures.steps st allowed shows)
    (ap
    (is_kept_out c.args.self.now.claims.drain
    (map.get c.args.self.now.claims.claims c.args.session.0)) (sym c.class_of-class.ensures)
    ∙ sym c.is_drained.ensures ∙ c.if-is_drained.false)
    _ c.register.new.self c.class_of-class.ensures
    (ok_done c.answer_over-reply.result (sym c.is_ok.ensures ∙ c.if-is_ok.true)) c.register.ensures

-- its answer says that it was done

pub register-requires-then-is_done-clause-admitted :
    goal.register-requires-then-is_done-clause-admitted
register-requires-then-is_done-clause-admitted g c =
    let st = c.requires.shown.state in
    let allowed = c.requires.shown.allowed in
    let shows = c.requires.shown.shows in
    still_admitted st allowed c.args.self.now shows c.args.session c.args.stmt.now
    c.answer_over-reply.result c.answer_over-reply.new.self
    (c.answer_over-reply.ensures.steps st allowed shows)
    (ap
    (is_kept_out c.args.self.now.claims.drain
    (map.get c.args.self.now.claims.claims c.args.session.0)) (sym c.class_of-class.ensures)
    ∙ sym c.is_drained.ensures ∙ c.if-is_drained.false)
    _ c.class_of-class.ensures (sym c.is_done.ensures ∙ c.if-is_done.true)

pub returns-then-is_done-clause-answers : goal.returns-then-is_done-clause-answers
returns-then-is_done-clause-answers g c = λ st allowed shows.
    done_answers st allowed c.args.self.now shows c.args.session c.args.stmt.now
    c.answer_over-reply.result c.answer_over-reply.new.self
    (c.answer_over-reply.ensures.steps st allowed shows)
    (ap
    (is_kept_out c.args.self.now.claims.drain
    (map.get c.args.self.now.claims.claims c.args.session.0)) (sym c.class_of-class.ensures)
    ∙ sym c.is_drained.ensures ∙ c.if-is_drained.false)
    _ c.register-then-is_done.new.self c.class_of-class.ensures
    (sym c.is_done.ensures ∙ c.if-is_done.true) c.register-then-is_done.ensures

-- or that it was refused

pub returns-clause-answers : goal.returns-clause-answers
returns-clause-answers g c = λ st allowed shows.
    refused_answers st allowed c.args.self.now shows c.args.session c.args.stmt.now
    c.answer_over-reply.result c.answer_over-reply.new.self
    (c.answer_over-reply.ensures.steps st allowed shows)
    (ap
    (is_kept_out c.args.self.now.claims.drain
    (map.get c.args.self.now.claims.claims c.args.session.0)) (sym c.class_of-class.ensures)
    ∙ sym c.is_drained.ensures ∙ c.if-is_drained.false)
    (sym c.is_done.ensures ∙ c.if-is_done.false)

-- what is sent

pub send_since-requires-clause-within : goal.send_since-requires-clause-within
send_since-requires-clause-within g c =
    let goes = c.answer_over-reply.ensures.steps c.requires.shown.state c.requires.shown.allowed
    c.requires.shown.shows in
    let records = ap (λ (x : Engine). x.log.records) c.register.ensures ∙ goes.grows.records in
    omega (
      arith,
      ap (λ (rs : List Record). length rs) c.records-first.ensures.records,
      ap (λ (rs : List Record). length rs) records,
      length-append c.args.self.now.log.records goes.grows.more,
    )

pub send_since-requires-clause-rows : goal.send_since-requires-clause-rows
send_since-requires-clause-rows g c = λ runs.
    let shown = c.requires.shown in
    let d = c.args.self.now in
    let mid = c.answer_over-reply.new.self in
    let goes = c.answer_over-reply.ensures.steps shown.state shown.allowed shown.shows in
    let own = own_writes shown.state shown.allowed d shown.shows c.args.session in
    rows_ready d mid c.args.session c.args.stmt.now c.answer_over-reply.result c.in-Ok.rows.items
    own.0 own.1 goes.moves (sym c.is_ok.ensures ∙ c.if-is_ok.true)
    (c.in-Ok.ensures.rows runs own.0 own.1)
    ∙ ap (λ (rs : List Record). rows_after (changes_in (drop (length rs) mid.log.records)))
    (sym c.records-first.ensures.records)
    ∙
    ap (λ (rs : List Record). rows_after (changes_in (drop (length c.records-first.result.now) rs)))
    (sym (ap (λ (x : Engine). x.log.records) c.register.ensures))

pub returns-then-is_done-clause-sent : goal.returns-then-is_done-clause-sent
returns-then-is_done-clause-sent g c =
    let shown = c.requires.shown in
    let d = c.args.self.now in
    let own = own_writes shown.state shown.allowed d shown.shows c.args.session in
    let answered = returns-then-is_done-clause-answers g c shown.state shown.allowed shown.shows in
    none_sent d c.register-then-is_done.new.self c.args.session c.args.stmt.now
    c.answer_over-reply.result c.args.runs (sent_items c.args.outlet.now)
    (sent_items c.make_ready.new.outlet) own.0 own.1 answered.moves answered.is
    (sym c.is_ok.ensures ∙ c.if-is_ok.false) c.make_ready.ensures.same.items

pub returns-clause-sent : goal.returns-clause-sent
returns-clause-sent g c =
    let shown = c.requires.shown in
    let d = c.args.self.now in
    let own = own_writes shown.state shown.allowed d shown.shows c.args.session in
    let answered = returns-clause-answers g c shown.state shown.allowed shown.shows in
    none_sent d c.answer_over-reply.new.self c.args.session c.args.stmt.now
    c.answer_over-reply.result c.args.runs (sent_items c.args.outlet.now)
    (sent_items c.make_ready.new.outlet) own.0 own.1 answered.moves answered.is
    (sym c.is_ok.ensures ∙ c.if-is_ok.false) c.make_ready.ensures.same.items
