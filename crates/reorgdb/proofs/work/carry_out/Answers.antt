use Rattle.std.proofs.Common.{Result, OnErr, map, string_bytes, refl, subst}
use Rattle.rg_words.specs.Spelling.{IsAdmitted, Spells}
use Rattle.rg_words.specs.declared.words.Admits.TheVariants.{Gen as UpToGen}
use Rattle.rg_words.specs.declared.words.Words.{Words}
use Rattle.rg_words.specs.declared.words.WordsFault.{WordsFault}
use Rattle.reorgdb.specs.Answer.{seen}
use Rattle.reorgdb.proofs.Deals.{comes_shown, no_command}
use Rattle.reorgdb.proofs.Asked.{none_asked}
use Rattle.reorgdb.proofs.Traces.{none_traced}
use Rattle.reorgdb.proofs.work.carry_out.Goals as goal

pub returns-in-Ok-Layout-clause-comes : goal.returns-in-Ok-Layout-clause-comes
returns-in-Ok-Layout-clause-comes g c =
    let words = map string_bytes c.args.words.now in
    let source = seen g.S.Source.left g.S.Source.faults c.args.source.now in
    let look = g.V.Volume.seen in
    comes_shown c.show_layout.result.end.outcome words source source (look c.args.volume)
    (look c.show_layout.result.volume) c.show_layout.result.trace.items
    c.show_layout.result.end.text
    (c.show_layout.ensures.shows words source
    (subst (λ (asked : Words). Spells asked words) c.in-Ok-Layout.field-0-is
    c.in-Ok-Layout.ensures.command.0))

pub returns-in-Err-Unknown-clause-comes : goal.returns-in-Err-Unknown-clause-comes
returns-in-Err-Unknown-clause-comes g c =
    let words = map string_bytes c.args.words.now in
    rw c.bare.ensures.outcome (
      no_command words
          (subst
          (λ (r : Result Words WordsFault). OnErr r
          ((asked : Words) → Spells asked words → IsAdmitted UpToGen asked → ⊥)) c.in-Err-Unknown.is
          c.read_admitted.ensures.unknown),
      refl,
      c.bare.ensures.trace,
    )

pub returns-in-Err-Unknown-clause-asked : goal.returns-in-Err-Unknown-clause-asked
returns-in-Err-Unknown-clause-asked g c = none_asked g.O.Operator.answers c.args.operator
    c.bare.result.operator c.bare.result.trace.items c.bare.ensures.operator c.bare.ensures.trace

pub returns-in-Err-Unknown-clause-traced : goal.returns-in-Err-Unknown-clause-traced
returns-in-Err-Unknown-clause-traced g c =
    none_traced g.V.Volume.seen c.args.volume
    c.bare.result.volume c.bare.result.trace.items c.bare.ensures.volume c.bare.ensures.trace
