-- The desk that was asked differs from the one before in that alone, and in its room.
use Rattle.std.proofs.Common.{◌≡◌, ℕ, Some, sym, ◌∙◌, ap}
use Rattle.rg_base.specs.declared.control.Answer.{Answer}
use Rattle.rg_desk.specs.Desk.{DeskState}

-- there is room for an entry, after what was sent is handed over
pub same_roomy : {V O : Type 0} (old handed mid : DeskState V O) → handed ≡ old
    → mid ≡ record handed { spare = mid.spare } → mid ≡ record old { spare = mid.spare }
same_roomy {V} {O} old handed mid same room =
    room
    ∙ ap (λ (d : DeskState V O). let x : DeskState V O = record d { spare = mid.spare } in x) same

-- and the answer is kept
pub same_asked : {V O : Type 0} (old mid asked : DeskState V O) (answer : Answer)
    → mid ≡ record old { spare = mid.spare }
    → asked ≡ record mid { kept = Some answer; operator = asked.operator }
    → asked ≡ record old { spare = asked.spare; kept = Some answer; operator = asked.operator }
same_asked {V} {O} old mid asked answer room same =
    same
    ∙ ap
    (λ (m : DeskState V O).
    let d : DeskState V O = record m { kept = Some answer; operator = asked.operator } in d) room
    ∙ ap
    (λ (n : ℕ). let d : DeskState V O =
    record old { spare = n; kept = Some answer; operator = asked.operator } in d)
    (sym (ap (λ (d : DeskState V O). d.spare) same))
