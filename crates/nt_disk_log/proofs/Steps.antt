-- One more step in a log.
use Rattle.std.proofs.Common.{◌≡◌, ◌∙◌, ap, sym, ℕ, ◌+◌, ◌≤◌, List, [], ◌∷◌, ◌++◌, length, take, drop, arith, length-append, length-drop}
use Rattle.std.proofs.lemmas.List.{take_all, take-append-le, drop-append-le}
use Rattle.nt_outside.specs.Log.{Step}
use Rattle.nt_disk_log.specs.declared.log.Row.{Row}
use Rattle.nt_disk_log.specs.Rows.{steps, step, bytes_of, total_bytes}

total_bytes-push : (rows : List Row) (row : Row) → total_bytes (rows ++ row ∷ []) ≡ total_bytes rows + bytes_of row
total_bytes-push [] row = omega arith
total_bytes-push (r ∷ rows) row = omega (arith, total_bytes-push rows row)

steps-push : (rows : List Row) (bytes more : List ℕ) (row : Row) → total_bytes rows ≡ length bytes → bytes_of row ≡ length more
    → steps (rows ++ row ∷ []) (bytes ++ more) ≡ steps rows bytes ++ step row more ∷ []
steps-push [] [] more row all len = ap (λ (x : List ℕ). step row x ∷ []) (take_all (bytes_of row) more (omega (arith, len)))
steps-push [] (b ∷ bytes) more row all len = absurd (omega arith)
steps-push (r ∷ rows) bytes more row all len =
    let fits : bytes_of r ≤ length bytes = omega arith in
    let rest : total_bytes rows ≡ length (drop (bytes_of r) bytes) = omega (arith, length-drop (bytes_of r) bytes) in
    rw (take-append-le (bytes_of r) bytes more fits, drop-append-le (bytes_of r) bytes more fits)
    (ap (λ (x : List Step). step r (take (bytes_of r) bytes) ∷ x) (steps-push rows (drop (bytes_of r) bytes) more row rest len))

-- the rows still tell the number of the bytes
pub total_bytes-pushed : (rows rows' : List Row) (bytes bytes' more : List ℕ) (row : Row) → total_bytes rows ≡ length bytes
    → rows' ≡ rows ++ row ∷ [] → bytes' ≡ bytes ++ more → bytes_of row ≡ length more → total_bytes rows' ≡ length bytes'
total_bytes-pushed rows rows' bytes bytes' more row all rows-are bytes-are len =
    ap total_bytes rows-are ∙ (total_bytes-push rows row ∙ (omega (arith, length-append bytes more) ∙ sym (ap length bytes-are)))

-- rows that gained one, with its bytes, stand for one more step
pub steps-pushed : (rows rows' : List Row) (bytes bytes' more : List ℕ) (row : Row) → total_bytes rows ≡ length bytes → rows' ≡ rows
    ++ row ∷ [] → bytes' ≡ bytes ++ more → bytes_of row ≡ length more → steps rows' bytes' ≡ steps rows bytes ++ step row more ∷ []
steps-pushed rows rows' bytes bytes' more row all rows-are bytes-are len =
    ap (λ (x : List Row). steps x bytes') rows-are
    ∙ ap (λ (x : List ℕ). steps (rows ++ row ∷ []) x) bytes-are
    ∙ steps-push rows bytes more row all len
