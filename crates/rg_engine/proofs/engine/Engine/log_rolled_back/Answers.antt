use Rattle.std.proofs.Common.{ℕ, [], ◌∷◌, ◌++◌, refl, ◌∙◌, ap, arith}
use Rattle.rg_image.specs.Pack.{log_bytes}
use Rattle.rg_log.specs.Kept.{Listed}
use Rattle.rg_record.specs.declared.record.Kind.TheVariants.{RolledBack}
use Rattle.rg_record.specs.declared.record.Record.{Record}
use Rattle.rg_engine.specs.Ended.{rolled_record}
use Rattle.rg_engine.proofs.NewestKept.{end_stays, space_newest}
use Rattle.rg_engine.proofs.Spelled.{rolled_bytes}
use Rattle.rg_engine.proofs.engine.Engine.log_rolled_back.Goals as goal

pub append-requires-clause-room : goal.append-requires-clause-room
append-requires-clause-room c = omega (arith, rolled_bytes, c.requires)

pub overflow_sub-left : goal.overflow_sub-left
overflow_sub-left c =
    omega (arith, c.reserved.ensures, c.append.ensures.reserved, rolled_bytes, c.requires)

pub returns : goal.returns
returns c = record {
  same = refl;
  records =
      ap (λ (l : Listed). l.records) c.give_back.ensures
      ∙ c.append.ensures.records
      ∙
      ap (λ (n : ℕ). c.args.self.now.log.records ++ rolled_record n c.args.last.0 c.args.unit ∷ [])
      c.next_position.ensures;
  newest = λ e h.
      let entry : Record = record {
        position = c.next_position.result;
        tran = c.args.unit.tran;
        back = c.args.last;
        kind = RolledBack;
      } in
      space_newest (c.args.self.now.log.records ++ entry ∷ []) c.give_back.new.self.records
      c.args.self.now.space c.args.self.now.space
      (ap (λ (l : Listed). l.records) c.give_back.ensures ∙ c.append.ensures.records) refl e
      (end_stays c.args.self.now.log.records entry c.args.self.now.space c.next_position.ensures
      refl refl e h);
  reserved = omega (
    arith,
    ap (λ (l : Listed). l.reserved) c.give_back.ensures,
    c.reserved.ensures,
    c.append.ensures.reserved,
    rolled_bytes,
    c.requires,
  );
  taken = omega (
    arith,
    ap (λ (l : Listed). l.reserved) c.give_back.ensures,
    ap (λ (l : Listed). log_bytes l.records) c.give_back.ensures,
    c.append.ensures.taken,
  );
  base = record {
    opened = refl;
    set_aside = refl;
    forced = ap (λ (l : Listed). l.forced) c.give_back.ensures ∙ c.append.ensures.forced;
    pages = ap (λ (l : Listed). l.pages) c.give_back.ensures ∙ c.append.ensures.pages;
  };
}
