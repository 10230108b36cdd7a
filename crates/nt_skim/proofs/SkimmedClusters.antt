-- Clusters that are skimmed one after the other.
use Rattle.std.proofs.Common.{◌≡◌, ◌∙◌, ap, sym, refl, subst, ℕ, ◌+◌, ◌<◌, ◌≤◌, List, [], ◌∷◌, ◌++◌, length}
use Rattle.std.proofs.Common.{drop, Result, Ok, Err, append_assoc, arith}
use Rattle.std.specs.Prelude.{slice_index_or, IsErrOf}
use Rattle.std.proofs.lemmas.List.{append-nil, drop_more, drop_all, length-append}
use Rattle.nt_lists.specs.Chaining.{◌>>=◌}
use Rattle.nt_lists.proofs.Variants.{err_is}
use Rattle.nt_num.specs.declared.fault.ReadError.{ReadError}
use Rattle.nt_types.specs.TreeData.{TreesData}
use Rattle.nt_skim.specs.declared.error.SkimError.{SkimError}
use Rattle.nt_skim.specs.declared.error.SkimError.TheVariants.{Defect, Fault, Sink, Memory}
use Rattle.nt_skim.specs.Select.{Selection, selected, entries_read, before_fault}
use Rattle.nt_skim.specs.Skimming.{SinkState, GainsEntries, GainsFirstEntries, entries_or_none, TakesSelected, IsClusterSkimmed, IsSkimmed}
use Rattle.nt_skim.proofs.Selecting.{selected-append, gains-nothing, gains-then, front-then}

-- what was read, and what is read of others behind it
abbrev pub behind : List TreesData → Result (List TreesData) ReadError → Result (List TreesData) ReadError
behind before (Ok others) = Ok (before ++ others)
behind before (Err e) = Err e

behind-nothing : (r : Result (List TreesData) ReadError) → behind [] r ≡ r
behind-nothing (Ok others) = refl
behind-nothing (Err e) = refl

behind-behind : (before after : List TreesData) (r : Result (List TreesData) ReadError)
    → behind before (behind after r) ≡ behind (before ++ after) r
behind-behind before after (Ok others) = ap (λ (l : List TreesData). Ok l) (sym (append_assoc before after others))
behind-behind before after (Err e) = refl

read-first : (r others : Result (List TreesData) ReadError) (entries : List TreesData) → r ≡ Ok entries
    → (r >>= λ first. others >>= λ rest. Ok (first ++ rest)) ≡ behind entries others
read-first r (Ok rest) entries is = rw is refl
read-first r (Err e) entries is = rw is refl

read-faulty : (r others : Result (List TreesData) ReadError) (e : ReadError) → r ≡ Err e
    → (r >>= λ first. others >>= λ rest. Ok (first ++ rest)) ≡ Err e
read-faulty r others e is = rw is refl

before-first : (r : Result (List TreesData) ReadError) (rs : List (Result (List TreesData) ReadError)) (entries : List TreesData)
    → r ≡ Ok entries → before_fault (r ∷ rs) ≡ entries ++ before_fault rs
before-first r rs entries is = rw is refl

before-any : (r : Result (List TreesData) ReadError) (rs : List (Result (List TreesData) ReadError))
    → (more : List TreesData) × (before_fault (r ∷ rs) ≡ entries_or_none r ++ more)
before-any (Ok es) rs = (before_fault rs, refl)
before-any (Err e) rs = ([], refl)

-- of a cluster that was skimmed all is a front
cluster_all : {F B : Type 0} (s : Selection) (reading : Result (List TreesData) ReadError) (n : ℕ) (old new : SinkState F B)
    → IsClusterSkimmed s reading old new (Ok n) → GainsFirstEntries (selected s (entries_or_none reading)) old.entries new.entries
cluster_all s reading n old new is es told =
    let same : selected s (entries_or_none reading) ≡ selected s is.0 =
    ap (λ (r : Result (List TreesData) ReadError). selected s (entries_or_none r)) is.1 in
    (selected s is.0, [], same ∙ sym (append-nil (selected s is.0)), is.3 es told)

-- the clusters before this one were read, and their entries taken
pub record HasSkimmed {F B : Type 0} (s : Selection) (rs : List (Result (List TreesData) ReadError)) (k total : ℕ)
    (old new : SinkState F B) : Type 0 where
  pub before : List TreesData
  pub reads : entries_read rs ≡ behind before (entries_read (drop k rs))
  pub sound : before_fault rs ≡ before ++ before_fault (drop k rs)
  pub count : total ≡ length (selected s before)
  pub gains : GainsEntries (selected s before) old.entries new.entries

-- what a cluster is read as
abbrev pub read_at : List (Result (List TreesData) ReadError) → ℕ → Result (List TreesData) ReadError
read_at rs k = slice_index_or rs k (Ok [])

next-read : (rs : List (Result (List TreesData) ReadError)) (k : ℕ) → k < length rs → drop k rs ≡ read_at rs k ∷ drop (k + 1) rs
next-read rs k less = drop_more rs k (Ok []) less

module _ {F B : Type 0} (s : Selection) (rs : List (Result (List TreesData) ReadError)) where
  pub skimmed_none : (old : SinkState F B) → HasSkimmed s rs 0 0 old old
  skimmed_none old = record {
    before = [];
    reads = sym (behind-nothing (entries_read rs));
    sound = refl;
    count = refl;
    gains = gains-nothing old.entries;
  }

  pub skimmed_all : (k total : ℕ) (old new : SinkState F B) → length rs ≤ k → HasSkimmed s rs k total old new
      → IsSkimmed s rs old new (Ok total)
  skimmed_all k total old new past so-far = (
    so-far.before,
    so-far.reads
        ∙ (ap (λ (l : List (Result (List TreesData) ReadError)). behind so-far.before (entries_read l)) (drop_all k rs past)
        ∙ ap (λ (l : List TreesData). Ok l) (append-nil so-far.before)),
    so-far.count,
    so-far.gains,
  )

  module _ (k total : ℕ) (old mid new : SinkState F B) (less : k < length rs) (so-far : HasSkimmed s rs k total old mid) where
    pub skimmed_more : (n sum : ℕ) → sum ≡ total + n → IsClusterSkimmed s (read_at rs k) mid new (Ok n)
        → HasSkimmed s rs (k + 1) sum old new
    skimmed_more n sum sum_is is =
        let more = selected-append s so-far.before is.0 in
        record {
          before = so-far.before ++ is.0;
          reads = so-far.reads
              ∙ (ap (λ (l : List (Result (List TreesData) ReadError)). behind so-far.before (entries_read l)) (next-read rs k less)
              ∙ (ap (behind so-far.before) (read-first (read_at rs k) (entries_read (drop (k + 1) rs)) is.0 is.1)
              ∙ behind-behind so-far.before is.0 (entries_read (drop (k + 1) rs))));
          sound = so-far.sound
              ∙ (ap (λ (l : List (Result (List TreesData) ReadError)). so-far.before ++ before_fault l) (next-read rs k less)
              ∙ (ap (λ (l : List TreesData). so-far.before ++ l) (before-first (read_at rs k) (drop (k + 1) rs) is.0 is.1)
              ∙ sym (append_assoc so-far.before is.0 (before_fault (drop (k + 1) rs)))));
          count = omega (
            arith,
            sum_is,
            so-far.count,
            is.2,
            ap length more,
            length-append (selected s so-far.before) (selected s is.0),
          );
          gains = λ es told. subst (λ (l : List TreesData). new.entries (es ++ l)) (sym more)
              (gains-then old.entries mid.entries new.entries _ _ so-far.gains is.3 es told);
        }

    part : GainsFirstEntries (selected s (entries_or_none (read_at rs k))) mid.entries new.entries
        → GainsFirstEntries (selected s (before_fault rs)) old.entries new.entries
    part front es told =
        let any = before-any (read_at rs k) (drop (k + 1) rs) in
        let split : selected s (before_fault rs)
        ≡ selected s so-far.before
        ++ (selected s (entries_or_none (read_at rs k)) ++ selected s any.0) =
        ap (selected s)
        (so-far.sound
        ∙ (ap (λ (l : List (Result (List TreesData) ReadError)). so-far.before ++ before_fault l) (next-read rs k less)
        ∙ ap (λ (l : List TreesData). so-far.before ++ l) any.1))
        ∙ (selected-append s so-far.before (entries_or_none (read_at rs k) ++ any.0)
        ∙ ap (λ (l : List TreesData). selected s so-far.before ++ l)
        (selected-append s (entries_or_none (read_at rs k)) any.0)) in
        let some = front-then old.entries mid.entries new.entries _ _ (selected s any.0) so-far.gains front es told in
        (some.0, some.1, split ∙ some.2, some.3)

    faulty : (e : ReadError) → read_at rs k ≡ Err e → before_fault rs ≡ so-far.before
    faulty e is =
        so-far.sound
        ∙ (ap (λ (l : List (Result (List TreesData) ReadError)). so-far.before ++ before_fault l) (next-read rs k less)
        ∙ (ap (λ (r : Result (List TreesData) ReadError). so-far.before ++ before_fault (r ∷ drop (k + 1) rs)) is
        ∙ append-nil so-far.before))

    pub skimmed_part : (e : SkimError F) → IsClusterSkimmed s (read_at rs k) mid new (Err e)
        → IsSkimmed s rs old new (Err e)
    skimmed_part (Defect e) is = (
      so-far.reads
          ∙ (ap (λ (l : List (Result (List TreesData) ReadError)). behind so-far.before (entries_read l)) (next-read rs k less)
          ∙ ap (behind so-far.before) (read-faulty (read_at rs k) (entries_read (drop (k + 1) rs)) e is.0)),
      λ es told. subst (λ (l : List TreesData). new.entries (es ++ selected s l)) (sym (faulty e is.0))
          (is.1 (es ++ selected s so-far.before) (so-far.gains es told)),
    )
    skimmed_part Fault is = part is
    skimmed_part (Sink f) is = part is
    skimmed_part Memory is = part is

    -- where more was put than can be counted, the first were put
    pub skimmed_too_many : (n : ℕ) → IsClusterSkimmed s (read_at rs k) mid new (Ok n) → IsSkimmed s rs old new (Err Memory)
    skimmed_too_many n is = part (cluster_all s (read_at rs k) n mid new is)

-- a cluster whose entries were taken is skimmed
pub cluster_part : {F B : Type 0} (s : Selection) (reading : Result (List TreesData) ReadError)
    (entries : List TreesData) (old new : SinkState F B) → reading ≡ Ok entries
    → GainsFirstEntries (selected s entries) old.entries new.entries
    → GainsFirstEntries (selected s (entries_or_none reading)) old.entries new.entries
cluster_part s reading entries old new is front es told =
    let some = front es told in
    (some.0, some.1, ap (λ (r : Result (List TreesData) ReadError). selected s (entries_or_none r)) is ∙ some.2, some.3)

pub cluster_refused : {F B : Type 0} (s : Selection) (reading : Result (List TreesData) ReadError)
    (entries : List TreesData) (old new : SinkState F B) (e : SkimError F) → reading ≡ Ok entries
    → TakesSelected (selected s entries) old new (Err e) → IsClusterSkimmed s reading old new (Err e)
cluster_refused s reading entries old new (Defect f) is takes = absurd takes
cluster_refused s reading entries old new Fault is takes = absurd takes
cluster_refused s reading entries old new (Sink f) is takes = cluster_part s reading entries old new is takes
cluster_refused s reading entries old new Memory is takes = cluster_part s reading entries old new is takes

-- what is put of a cluster that was read
pub cluster_done : {F B : Type 0} (s : Selection) (reading : Result (List TreesData) ReadError) (entries : List TreesData)
    (old new : SinkState F B) (r : Result ℕ (SkimError F)) → reading ≡ Ok entries → TakesSelected (selected s entries) old new r
    → IsClusterSkimmed s reading old new r
cluster_done s reading entries old new (Ok n) is takes = (entries, is, takes.0, takes.1)
cluster_done s reading entries old new (Err e) is takes = cluster_refused s reading entries old new e is takes

-- the outside doesn't fail while entries are put
pub never_fault : {F B : Type 0} (more : List TreesData) (old new : SinkState F B) (r : Result ℕ (SkimError F))
    → TakesSelected more old new r → IsErrOf r Fault → ⊥
never_fault more old new (Ok n) takes is = absurd cc
never_fault more old new (Err e) takes is =
    subst (λ (f : SkimError _). TakesSelected more old new (Err f)) (err_is {A = ℕ} e Fault is) takes
