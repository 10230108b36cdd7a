-- How `scan` ends where the outside serves.
use Rattle.std.proofs.Common.{◌≡◌, ◌⊎◌, ◌∙◌, inl, inr, ap, ap₂, sym, refl, ℕ, List, Option, Some, None, Ok, Err}
use Rattle.nt_num.specs.declared.fault.ReadError.{ReadError}
use Rattle.nt_outside.specs.World.{World}
use Rattle.nt_types.specs.TreeData.{TreesData}
use Rattle.nt_grammar.specs.Table.{Table}
use Rattle.nt_file_meaning.specs.Files.{HasDefect, read_file}
use Rattle.nt_scan.specs.declared.error.ScanError.TheVariants.{Defect}
use Rattle.nt_scan.specs.Counts.{most_elements}
use Rattle.nt_scan.specs.Scans.{ScansAs}
use Rattle.nt_scan.proofs.Alone.{lines-no_defect, lines-not_over, defect-not_over, few-not_over, over-once, defect-once}
use Rattle.nt_store.specs.Worlds.{IsThereWith}
use Rattle.nt_app.specs.Scans.{HasTooMany, CanBeTotalled, ScanTold}
use Rattle.nt_app.specs.declared.status.Status.{Status}
use Rattle.nt_app.specs.declared.status.Status.TheVariants as status

faulty_both : (bytes : List ℕ) (read : Table × List (List TreesData)) (e : ReadError) → read_file bytes ≡ Ok read → HasDefect bytes e → ⊥
faulty_both bytes read e is defect =
    let bad = sym is ∙ defect in
    cc

-- how it ends where the outside serves: of a file that can be totalled
pub ends_done : (found : Option (List ℕ)) (w v : World) (answer : Status) → ScanTold found w v answer → IsThereWith CanBeTotalled found
    → (answer ≡ status.Outside → ⊥) → (answer ≡ status.Done) ⊎ (answer ≡ status.Memory)
ends_done None w v answer told can served = absurd can
ends_done (Some bytes) w v status.Done told can served = inl refl
ends_done (Some bytes) w v status.Usage told can served = absurd told
ends_done (Some bytes) w v (status.File e) told can served = absurd (faulty_both bytes (can.t, can.entries) e can.means told.0.0)
ends_done (Some bytes) w v (status.FileOf file e) told can served = absurd told
ends_done (Some bytes) w v status.Outside told can served = absurd (served refl)
ends_done (Some bytes) w v (status.Limit reached limit) told can served = absurd (few-not_over bytes told.0.0 reached can.few told.0.1)
ends_done (Some bytes) w v (status.Text input line kind) told can served = absurd told
ends_done (Some bytes) w v status.Memory told can served = inr refl
ends_done (Some bytes) w v (status.Schema place) told can served = absurd told

-- of one with too many elements
pub ends_over : (found : Option (List ℕ)) (w v : World) (reached : ℕ) (answer : Status) → ScanTold found w v answer
    → IsThereWith (λ bytes. HasTooMany bytes reached) found → (answer ≡ status.Outside → ⊥)
    → (answer ≡ status.Limit reached most_elements) ⊎ (answer ≡ status.Memory)
ends_over None w v reached answer told over served = absurd over
ends_over (Some bytes) w v reached status.Done told over served =
    absurd (lines-not_over bytes told.0 over.0 reached told.1.1 over.1)
ends_over (Some bytes) w v reached status.Usage told over served = absurd told
ends_over (Some bytes) w v reached (status.File e) told over served = absurd (defect-not_over bytes e over.0 reached told.0 over.1)
ends_over (Some bytes) w v reached (status.FileOf file e) told over served = absurd told
ends_over (Some bytes) w v reached status.Outside told over served = absurd (served refl)
ends_over (Some bytes) w v reached (status.Limit r limit) told over served =
    inl (ap₂ (λ (m n : ℕ). status.Limit m n) (over-once bytes told.0.0 r over.0 reached told.0.1 over.1) told.1)
ends_over (Some bytes) w v reached (status.Text input line kind) told over served = absurd told
ends_over (Some bytes) w v reached status.Memory told over served = inr refl
ends_over (Some bytes) w v reached (status.Schema place) told over served = absurd told

-- of one with a fault
pub ends_faulty : (found : Option (List ℕ)) (w v : World) (e : ReadError) (answer : Status) → ScanTold found w v answer
    → IsThereWith (λ bytes. ScansAs bytes (Err (Defect e))) found → (answer ≡ status.Outside → ⊥)
    → (answer ≡ status.File e) ⊎ (answer ≡ status.Memory)
ends_faulty None w v e answer told faulty served = absurd faulty
ends_faulty (Some bytes) w v e status.Done told faulty served = absurd (lines-no_defect bytes told.0 e told.1.1 faulty)
ends_faulty (Some bytes) w v e status.Usage told faulty served = absurd told
ends_faulty (Some bytes) w v e (status.File d) told faulty served =
    inl (ap (λ (f : ReadError). status.File f) (defect-once bytes d e told.0 faulty))
ends_faulty (Some bytes) w v e (status.FileOf file d) told faulty served = absurd told
ends_faulty (Some bytes) w v e status.Outside told faulty served = absurd (served refl)
ends_faulty (Some bytes) w v e (status.Limit reached limit) told faulty served =
    absurd (defect-not_over bytes e told.0.0 reached faulty told.0.1)
ends_faulty (Some bytes) w v e (status.Text input line kind) told faulty served = absurd told
ends_faulty (Some bytes) w v e status.Memory told faulty served = inr refl
ends_faulty (Some bytes) w v e (status.Schema place) told faulty served = absurd told
