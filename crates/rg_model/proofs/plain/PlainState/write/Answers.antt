use Rattle.std.proofs.Common.{◌≡◌, Bool, false, sym, ◌∙◌, ap, if◌then◌else◌}
use Rattle.std.specs.FinMap as map
use Rattle.std.proofs.lemmas.Bool.{not-true}
use Rattle.rg_base.specs.declared.lock.Lock.{Lock}
use Rattle.rg_base.specs.declared.session.Class.TheVariants.{Reader, Writer}
use Rattle.rg_model.specs.Claims.{claim_with}
use Rattle.rg_model.specs.Committed.{set_to}
use Rattle.rg_model.specs.Plain.{write_key}
use Rattle.rg_model.specs.PlainState.{state_of}
use Rattle.rg_model.specs.State.{State, Claims}
use Rattle.rg_model.proofs.Changed.{remove-insert, insert-insert}
use Rattle.rg_model.proofs.plain.PlainState.write.Goals as goal

-- the lock that was taken is given back
pub returns-then-fresh-clause-err : goal.returns-then-fresh-clause-err
returns-then-fresh-clause-err c =
    let plain = c.args.self.now in
    let key = c.args.key in
    let kept : Lock = record { owner = c.args.session; row = map.get plain.table key } in
    let is = c.in-Err.ensures.err ∙ c.in_ok-fresh.ensures.ok in
    let absent : map.contains_key plain.locks key ≡ false =
    not-true (map.contains_key plain.locks key)
    (sym c.in_ok-fresh.ensures.fresh ∙ c.if-fresh.true) in
    let taken : c.put.new.self.locks ≡ map.insert plain.locks key kept =
    ap (λ (st : State). st.locks) is
    ∙ ap (λ (b : Bool). if b then plain.locks else map.insert plain.locks key kept) absent in
    let locks : c.remove.new.self ≡ plain.locks = c.remove.ensures.removed
    ∙ ap (λ l. map.remove l key) taken ∙ remove-insert plain.locks key kept absent in
    λ i. record (is i) { locks = locks i }

pub returns-clause-ok : goal.returns-clause-ok
returns-clause-ok c =
    let plain = c.args.self.now in
    let key = c.args.key in
    let row = c.args.row in
    let number = c.args.session.0 in
    c.in_default.ensures.ok
    ∙ ap
    (λ (st : State).
    record st { table = set_to st.table key row; claims = map.insert st.claims number Writer })
    c.in_ok-fresh.ensures.ok
    ∙ ap
    (λ (claims : Claims).
    record (write_key (state_of plain) c.args.session key row) { claims = claims })
    (sym
    (insert-insert plain.claims number (claim_with (map.get plain.claims number) Reader) Writer))
