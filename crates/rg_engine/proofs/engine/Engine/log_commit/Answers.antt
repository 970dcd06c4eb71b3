use Rattle.std.proofs.Common.{ℕ, [], ◌∷◌, ◌++◌, refl, sym, ◌∙◌, ap, arith}
use Rattle.rg_log.specs.Kept.{Listed}
use Rattle.rg_record.specs.declared.record.Kind.TheVariants.{Commit}
use Rattle.rg_record.specs.declared.record.Record.{Record}
use Rattle.rg_engine.specs.Ended.{commit_record, records_committed}
use Rattle.rg_engine.specs.Units.{owed_to}
use Rattle.rg_engine.proofs.NewestKept.{end_stays, space_newest}
use Rattle.rg_engine.proofs.Spelled.{commit_bytes}
use Rattle.rg_engine.proofs.UndoBegins.{has_room}
use Rattle.rg_engine.proofs.engine.Engine.log_commit.Goals as goal

pub append-requires-clause-room : goal.append-requires-clause-room
append-requires-clause-room c =
    omega (
      arith,
      commit_bytes,
      has_room c.requires.shown.state c.requires.shown.allowed c.args.self.now
          c.requires.shown.shows c.args.session.0 c.in-Some.unit (sym c.in-Some.ensures),
    )

pub give_back-requires : goal.give_back-requires
give_back-requires c =
    omega (
      arith,
      c.undo_bytes-undo.ensures,
      c.append.ensures.reserved,
      commit_bytes,
      has_room c.requires.shown.state c.requires.shown.allowed c.args.self.now
          c.requires.shown.shows c.args.session.0 c.in-Some.unit (sym c.in-Some.ensures),
    )

pub returns : goal.returns
returns c =
    let room = has_room c.requires.shown.state c.requires.shown.allowed c.args.self.now
    c.requires.shown.shows c.args.session.0 c.in-Some.unit (sym c.in-Some.ensures) in
    let entry : Record = record {
      position = c.next_position.result;
      tran = c.in-Some.unit.tran;
      back = c.in-Some.unit.last;
      kind = Commit;
    } in
    record {
      same = refl;
      records =
          ap (λ (l : Listed). l.records) c.give_back.ensures
          ∙ c.append.ensures.records
          ∙ ap (λ (n : ℕ). c.args.self.now.log.records ++ commit_record n c.in-Some.unit ∷ [])
          c.next_position.ensures
          ∙ ap (records_committed c.args.self.now.log.records) c.in-Some.ensures;
      newest = λ e h.
          space_newest (c.args.self.now.log.records ++ entry ∷ []) c.give_back.new.self.records
          c.args.self.now.space c.args.self.now.space
          (ap (λ (l : Listed). l.records) c.give_back.ensures ∙ c.append.ensures.records) refl e
          (end_stays c.args.self.now.log.records entry c.args.self.now.space c.next_position.ensures
          refl refl e h);
      reserved = omega (
        arith,
        ap (λ (l : Listed). l.reserved) c.give_back.ensures,
        c.append.ensures.reserved,
        commit_bytes,
        c.undo_bytes-undo.ensures,
        ap owed_to c.in-Some.ensures,
        room,
      );
      base = record {
        opened = refl;
        set_aside = refl;
        forced = ap (λ (l : Listed). l.forced) c.give_back.ensures ∙ c.append.ensures.forced;
        pages = ap (λ (l : Listed). l.pages) c.give_back.ensures ∙ c.append.ensures.pages;
      };
    }
