use Rattle.std.proofs.Common.{◌≡◌, List, Option, Some, None, length, sym, ◌∙◌, ap}
use Rattle.std.proofs.lemmas.Bool.{eqb-true, eq-eqb}
use Rattle.rg_record.specs.declared.record.Record.{Record}
use Rattle.rg_engine.specs.Prepared.{PreparedSeen, prepared_seen}
use Rattle.rg_desk.proofs.desk.Desk.is_current.Goals as goal

none_kept : (o : Option PreparedSeen) (p : PreparedSeen) → None ≡ o → o ≡ Some p → ⊥
none_kept o p e is = absurd (cc (e, is))

kept_records : (o : Option PreparedSeen) (p q : PreparedSeen) → Some q ≡ o → o ≡ Some p
    → q.records ≡ p.records
kept_records o p q e is =
    let same : q ≡ p = cc (e, is) in
    ap (λ (x : PreparedSeen). x.records) same

pub returns-in-Some-clause-sure : goal.returns-in-Some-clause-sure
returns-in-Some-clause-sure g c = λ same. record {
  shadow = record { shade = c.in-Some.prepared.shadow; records = c.in-Some.prepared.records };
  shadow_is = sym (ap (λ d. d.shadow) c.self.view_is) ∙ ap prepared_seen c.in-Some.is;
  current =
      eqb-true c.in-Some.prepared.records (length c.records.result.now) same
      ∙ ap (λ (rs : List Record). length rs) c.records.ensures.records
      ∙ ap (λ d. length d.ground.log.records) c.self.view_is;
}

pub returns-in-Some-clause-all : goal.returns-in-Some-clause-all
returns-in-Some-clause-all g c = λ has.
    eq-eqb c.in-Some.prepared.records (length c.records.result.now)
    (kept_records c.args.self.now.shadow has.shadow
    (record { shade = c.in-Some.prepared.shadow; records = c.in-Some.prepared.records })
    (sym (sym (ap (λ d. d.shadow) c.self.view_is) ∙ ap prepared_seen c.in-Some.is)) has.shadow_is
    ∙ has.current
    ∙ sym
    (ap (λ (rs : List Record). length rs) c.records.ensures.records
    ∙ ap (λ d. length d.ground.log.records) c.self.view_is))

pub returns-in-None-clause-all : goal.returns-in-None-clause-all
returns-in-None-clause-all g c = λ has. absurd
    (none_kept c.args.self.now.shadow has.shadow
    (sym (sym (ap (λ d. d.shadow) c.self.view_is) ∙ ap prepared_seen c.in-None.is)) has.shadow_is)
