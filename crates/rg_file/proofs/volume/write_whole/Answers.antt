use Rattle.std.proofs.Common.{◌≡◌, ℕ, ◌-◌, List, ◌++◌, length, take, drop, sym, ap, ◌∙◌}
use Rattle.std.proofs.Common.{append_assoc, take-append-drop, arith}
use Rattle.std.proofs.lemmas.List.{take_rest}
use Rattle.std.proofs.KnownBytes.{Appends-trans}
use Rattle.rg_file.proofs.volume.write_whole.Goals as goal

-- what was written moves from the rest to the front
moves_front : (all front rest : List ℕ) (n : ℕ) → all ≡ front ++ rest
    → all ≡ (front ++ take n rest) ++ take (length rest - n) (drop n rest)
moves_front all front rest n e =
    e ∙ ap (λ l. front ++ l) (sym (take-append-drop n rest))
    ∙ sym (append_assoc front (take n rest) (drop n rest))
    ∙ ap (λ l. (front ++ take n rest) ++ l) (sym (take_rest rest n))

pub loop-rest-preserved : goal.loop-rest-preserved
loop-rest-preserved g c =
    let (front, split, appended) = c.loop-rest.invariant.given in
    let rest = c.loop-rest.rest.now in
    let n = c.in_ok-n.n in
    record {
      given = (
        front ++ take n rest,
        moves_front _ front rest n split,
        Appends-trans _ _ _ _ _ appended c.in_ok-n.ensures.kept,
      );
      later = omega (arith, c.loop-rest.invariant.later, c.in_ok-n.ensures.cause.later);
    }
