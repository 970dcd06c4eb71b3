-- The Change record that stands at a position.
use Rattle.std.proofs.Common.{◌≡◌, ℕ, List, Option, Some, sym, ◌∙◌, ap}
use Rattle.std.proofs.lemmas.Option.{same_Some}
use Rattle.rg_base.specs.declared.part.Part.{Part}
use Rattle.rg_base.specs.declared.place.Place.{Place}
use Rattle.rg_base.specs.declared.row.Row.{Row}
use Rattle.rg_record.specs.declared.record.Kind.TheVariants.{Change}
use Rattle.rg_record.specs.declared.record.Record.{Record}
use Rattle.rg_laws_log.specs.LogState.Write.{Write}
use Rattle.rg_engine.specs.Walks.{change_record}

-- it says what the write says
pub record IsChangeOf (back : ℕ) (w : Write) (entry : Record) (home : Place)
    (before after : Option Row) : Type 0 where
  pub back_is : entry.back.0 ≡ back
  pub home_is : home ≡ w.written.home
  pub before_is : before ≡ w.written.before
  pub after_is : after ≡ w.after

homes : (h g : Place) (b c : Option Row) (a d : Option Row) (p q : List Part)
    → Change h b a p ≡ Change g c d q → h ≡ g
homes h g b c a d p q e = cc (e)

befores : (h g : Place) (b c : Option Row) (a d : Option Row) (p q : List Part)
    → Change h b a p ≡ Change g c d q → b ≡ c
befores h g b c a d p q e = cc (e)

afters : (h g : Place) (b c : Option Row) (a d : Option Row) (p q : List Part)
    → Change h b a p ≡ Change g c d q → a ≡ d
afters h g b c a d p q e = cc (e)

pub change_of : (at t back : ℕ) (w : Write) (entry : Record) (home : Place)
    (before after : Option Row) (parts : List Part) → Some entry ≡ Some (change_record at t back w)
    → entry.kind ≡ Change home before after parts → IsChangeOf back w entry home before after
change_of at t back w entry home before after parts e k =
    let same : entry ≡ change_record at t back w = same_Some entry (change_record at t back w) e in
    let kinds : Change home before after parts
    ≡ Change w.written.home w.written.before w.after w.written.parts =
    sym k ∙ ap (λ (r : Record). r.kind) same in
    record {
      back_is = ap (λ (r : Record). r.back.0) same;
      home_is = homes home w.written.home before w.written.before after w.after parts
          w.written.parts kinds;
      before_is = befores home w.written.home before w.written.before after w.after parts
          w.written.parts kinds;
      after_is = afters home w.written.home before w.written.before after w.after parts
          w.written.parts kinds;
    }
