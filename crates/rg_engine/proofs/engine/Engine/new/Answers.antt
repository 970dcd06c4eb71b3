use Rattle.std.proofs.Common.{length, refl, ap}
use Rattle.rg_engine.proofs.Begins.{begin_shows, can_show}
use Rattle.rg_engine.proofs.engine.Engine.new.Goals as goal

pub returns-clause-shows : goal.returns-clause-shows
returns-clause-shows c = λ start copy starts.
    begin_shows _ c.args.top (can_show _ _ _ c.args.top c.requires.begins)
    (ap length c.records-opened.ensures.records) refl start starts copy
    (record { step = c.requires.step; agree = c.requires.agree }) c.requires.listings
    c.in_ok-locks.ensures c.in_ok-claims.ensures c.in_ok-units.ensures.none
    c.in_ok-units.ensures.owed c.in_ok-units.ensures.places refl
