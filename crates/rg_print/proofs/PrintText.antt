-- One more entry is printed.
use Rattle.std.proofs.Common.{Bool, ◌≡◌, ℕ, suc, ◌+◌, List, [], ◌∷◌, ◌++◌, length, sym, ◌∙◌, ap}
use Rattle.std.proofs.Common.{append_assoc, append-nil, add-zero, arith}
use Rattle.rg_stmt.specs.declared.event.Entry.{Entry}
use Rattle.rg_print.specs.Print.{entry_text, entries_text}

one_later : (n k : ℕ) → (n + 1) + k ≡ n + suc k
one_later n k = omega arith

pub entries-append : (full : Bool) (number : ℕ) (entries : List Entry) (entry : Entry)
    → entries_text full number (entries ++ entry ∷ [])
    ≡ entries_text full number entries ++ entry_text full (number + length entries) entry
entries-append full number [] entry = append-nil (entry_text full number entry)
    ∙ ap (λ n. entry_text full n entry) (sym (add-zero number))
entries-append full number (e ∷ entries) entry =
    ap (λ rest. entry_text full number e ++ rest) (entries-append full (number + 1) entries entry)
    ∙ sym
    (append_assoc (entry_text full number e) (entries_text full (number + 1) entries)
    (entry_text full ((number + 1) + length entries) entry))
    ∙ ap
    (λ n. (entry_text full number e ++ entries_text full (number + 1) entries)
    ++ entry_text full n entry) (one_later number (length entries))
