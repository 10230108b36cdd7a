-- The parts of the writing of a selection over a host, joined.
use Rattle.std.proofs.Common.{◌≡◌, ◌∙◌, inl, inr, ap, sym, subst, refl, ℕ, List, [], ◌++◌, length, take, drop, Some, Option}
use Rattle.std.proofs.Common.{Result, Ok, Err, None, append-nil, arith}
use Rattle.std.proofs.lemmas.List.{take-append-drop}
use Rattle.nt_lists.specs.Chunks.{chunks}
use Rattle.nt_outside.specs.declared.fault.Failed.{Failed}
use Rattle.nt_outside.specs.declared.stream.Stream.TheVariants.{ToOut}
use Rattle.nt_outside.specs.Log.{Step}
use Rattle.nt_outside.specs.Order.{EndsInSync}
use Rattle.nt_outside.specs.World.{World, HostState, PrintsAll, prints, file}
use Rattle.nt_book.specs.declared.params.Params.{Params}
use Rattle.nt_close.specs.Laws.{EndsOverFirst}
use Rattle.nt_store.specs.Worlds.{IsThereWith, MakesDisk, LeavesOut, IsWrittenInOrder, IsLeftAfter}
use Rattle.nt_store.proofs.Refused.{world_is}
use Rattle.nt_script.specs.declared.storing.Counts.{Counts}
use Rattle.nt_script.specs.Whole.{counts_line, line_of_clusters}
use Rattle.nt_skim_file.specs.declared.error.SkimStoreError.{SkimStoreError}
use Rattle.nt_skim_file.specs.declared.error.SkimStoreError.TheVariants.{Outside, Memory, Defect, Unplanned, Limit}
use Rattle.nt_skim_file.specs.Crashes.{SkimCrash, LeavesSkim}
use Rattle.nt_skim_file.specs.Choosing.{SkimChoiceData}
use Rattle.nt_skim_file.specs.Storing.{MakesSkim, OpenTold, NamedTold, SkimsNamed, StoresSkim, IsWholeSkimOf, SkimTold, StoresSelected}

-- what is found, with a fact of it
record Found (P : List ℕ → Type 0) (found : Option (List ℕ)) : Type 0 where
  bytes : List ℕ
  is : found ≡ Some bytes
  has : P bytes

found_with : (P : List ℕ → Type 0) (found : Option (List ℕ)) → IsThereWith P found → Found P found
found_with P None has = absurd has
found_with P (Some bytes) has = record { bytes = bytes; is = refl; has = has }

module _ (out name : List ℕ) (c : SkimChoiceData) (p : Params) where
  -- a whole file of which so much of its line is printed
  stores : (w w1 : World) (bytes printed behind : List ℕ) → file w name ≡ Some bytes → (makes : MakesSkim out c p bytes w w1)
      → w1.out ≡ w.out → line_of_clusters (chunks p.cluster makes.entries) ≡ printed ++ behind
      → StoresSkim out name c p w (prints ToOut printed w1) printed behind
  stores w w1 bytes printed behind is makes same line = record {
    bytes = bytes;
    there = is;
    makes = record {
      selection = makes.selection;
      entries = makes.entries;
      all = makes.all;
      made = record {
        made = makes.made.made;
        bytes = makes.made.bytes;
        file_is = makes.made.file_is;
        whole = makes.made.whole;
      };
    };
    line = line;
    gained = ap (λ (l : List ℕ). l ++ printed) same;
  }

  -- ---- the file isn't written

  unwritten_told : (w w' : World) → w'.out ≡ w.out → (e : SkimStoreError) → NamedTold out name c p w w' (Err e)
      → SkimTold out name c p w w' (Err e)
  unwritten_told w w' same Outside (inl left) = inl (left, same)
  unwritten_told w w' same Outside (inr whole) =
      let found = found_with (λ bytes. MakesSkim out c p bytes w w' × IsLeftAfter EndsOverFirst out w') (file w name) whole in
      inr (inl (
        line_of_clusters (chunks p.cluster found.has.0.entries),
        record {
          bytes = found.bytes;
          there = found.is;
          makes = found.has.0;
          line = refl;
          gained = same ∙ sym (append-nil w.out);
        },
        found.has.1,
      ))
  unwritten_told w w' same Memory left = (left, same)
  unwritten_told w w' same (Defect e) told = (told, same)
  unwritten_told w w' same (Unplanned e) told = (told.0, told.1, same)
  unwritten_told w w' same (Limit reached most) told = (told.0, told.1, same)

  unwritten_crash : (Whole : List ℕ → Type 0) (log : List Step) (e : SkimStoreError) → SkimCrash {T = Counts} Whole log (Err e)
      → SkimCrash {T = Unit {0}} Whole log (Err e)
  unwritten_crash Whole log Outside leaves = leaves
  unwritten_crash Whole log Memory leaves = leaves
  unwritten_crash Whole log (Defect e) leaves = leaves
  unwritten_crash Whole log (Unplanned e) leaves = leaves
  unwritten_crash Whole log (Limit reached most) leaves = leaves

  pub unwritten : (old new : HostState) (e : SkimStoreError) → SkimsNamed out name c p old new (Err e)
      → StoresSelected out name c p old new (Err e)
  unwritten old new e named = record {
    told = λ w is.
        let back = named.told w is in (back.0, back.1, back.2, back.4, unwritten_told w back.0 back.3 e back.5);
    order = named.order;
    crash = λ w w' is is' made.
        let left = named.crash w w' is is' made in
        record {
          at = left.at;
          log = left.log;
          there = left.there;
          steps = left.steps;
          leaves = unwritten_crash (IsWholeSkimOf name c p w) left.log e left.leaves;
        };
    asked = named.asked;
    plan_first = named.plan_first;
    later = named.later;
    failed = λ is. named.failed (cc is);
    back = named.back;
  }

  -- ---- it is, and its numbers are told, or a front of their line

  module _ (old mid new : HostState) (counts : Counts) (named : SkimsNamed out name c p old mid (Ok counts))
      (result : Result Unit Failed) (told : PrintsAll ToOut (counts_line counts.clusters counts.entries) mid new result) where
    abbrev line : List ℕ
    line = counts_line counts.clusters counts.entries

    -- what was made, and the world then
    record HasMade (w : World) : Type 0 where
      w1 : World
      world : mid.world ≡ Some w1
      bytes : List ℕ
      is : file w name ≡ Some bytes
      makes : MakesSkim out c p bytes w w1
      ends : IsLeftAfter EndsInSync out w1
      line_is : line_of_clusters (chunks p.cluster makes.entries) ≡ line

    made_by : (w : World) → old.world ≡ Some w → HasMade w
    made_by w is =
        let back = named.told w is in
        let found = found_with (λ bytes. OpenTold out c p bytes w back.0 (Ok counts)) (file w name) back.5 in
        let makes = found.has.0 in
        let numbers = found.has.2 in
        record {
          w1 = back.0;
          world = back.1;
          bytes = found.bytes;
          is = found.is;
          makes = makes;
          ends = found.has.1;
          line_is = sym (ap (λ (n : ℕ). counts_line n counts.entries) numbers.clusters
              ∙ ap (λ (n : ℕ). counts_line (length (chunks p.cluster makes.entries)) n) numbers.entries);
        }

    -- a print leaves the steps of the file
    left_after_print : (w1 : World) (printed : List ℕ) → IsLeftAfter EndsInSync out w1
        → IsLeftAfter EndsInSync out (prints ToOut printed w1)
    left_after_print w1 printed left =
        record { at = left.at; log = left.log; there = left.there; steps = left.steps; ends = left.ends }

    printed_at : (w1 : World) → mid.world ≡ Some w1 → (printed : List ℕ) × (new.world ≡ Some (prints ToOut printed w1))
    printed_at w1 is = let front = told.front w1 is in (take front.0 line, front.2)

    printed_order : (w w' : World) → old.world ≡ Some w → new.world ≡ Some w' → MakesDisk out w w' → IsWrittenInOrder out w'
    printed_order w w' is is' made =
        let made = made_by w is in
        let now = printed_at made.w1 made.world in
        let left = named.order w made.w1 is made.world made.makes.made.made in
        subst (IsWrittenInOrder out) (world_is (prints ToOut now.0 made.w1) w' (sym now.1 ∙ is')) (record {
          at = left.at;
          log = left.log;
          there = left.there;
          steps = left.steps;
          order = left.order;
        })

    printed_crash : (ended : Result Unit SkimStoreError)
        → ((Whole : List ℕ → Type 0) (log : List Step) → SkimCrash {T = Counts} Whole log (Ok counts) → SkimCrash Whole log ended)
        → (w w' : World) → old.world ≡ Some w → new.world ≡ Some w' → MakesDisk out w w'
        → LeavesSkim (IsWholeSkimOf name c p w) out w' ended
    printed_crash ended later w w' is is' disk-made =
        let made = made_by w is in
        let now = printed_at made.w1 made.world in
        let left = named.crash w made.w1 is made.world made.makes.made.made in
        subst (λ (v : World). LeavesSkim (IsWholeSkimOf name c p w) out v ended)
        (world_is (prints ToOut now.0 made.w1) w' (sym now.1 ∙ is')) (record {
          at = left.at;
          log = left.log;
          there = left.there;
          steps = left.steps;
          leaves = later (IsWholeSkimOf name c p w) left.log left.leaves;
        })

    back_then : LeavesOut 0 old new
    back_then = record {
      err_faults = told.other ∙ named.back.err_faults;
      opened = omega (arith, told.opened, named.back.opened);
    }

  pub stored : (old mid new : HostState) (counts : Counts) → SkimsNamed out name c p old mid (Ok counts)
      → PrintsAll ToOut (counts_line counts.clusters counts.entries) mid new (Ok tt) → StoresSelected out name c p old new (Ok tt)
  unfolding made_by
  stored old mid new counts named told =
      let line = counts_line counts.clusters counts.entries in
      record {
        told = λ w is.
            let back = named.told w is in
            let made = made_by old mid new counts named (Ok tt) told w is in (
              prints ToOut line back.0,
              told.ok back.0 back.1,
              back.2,
              back.4,
              (line, stores w back.0 made.bytes line [] made.is made.makes back.3 (made.line_is ∙ sym (append-nil line))),
            );
        order = printed_order old mid new counts named (Ok tt) told;
        crash = printed_crash old mid new counts named (Ok tt) told (Ok tt) (λ Whole log leaves. leaves);
        asked = told.asked ∙ named.asked;
        plan_first = λ w is lacks. let first = named.plan_first w is lacks in (first.0, told.asked ∙ first.1);
        later = omega (arith, named.later, told.cause.later);
        failed = λ is. absurd (cc is);
        back = back_then old mid new counts named (Ok tt) told;
      }

  pub untold : (old mid new : HostState) (counts : Counts) (e : Failed) → SkimsNamed out name c p old mid (Ok counts)
      → PrintsAll ToOut (counts_line counts.clusters counts.entries) mid new (Err e) → StoresSelected out name c p old new (Err Outside)
  unfolding made_by
  untold old mid new counts e named told =
      let line = counts_line counts.clusters counts.entries in
      record {
        told = λ w is.
            let back = named.told w is in
            let made = made_by old mid new counts named (Err e) told w is in
            let front = told.front back.0 back.1 in
            let printed = take front.0 line in (
              prints ToOut printed back.0,
              front.2,
              back.2,
              back.4,
              inr (inr (
                printed,
                drop front.0 line,
                stores w back.0 made.bytes printed (drop front.0 line) made.is made.makes back.3
                    (made.line_is ∙ sym (take-append-drop front.0 line)),
                left_after_print old mid new counts named (Err e) told back.0 printed made.ends,
              )),
            );
        order = printed_order old mid new counts named (Err e) told;
        crash = printed_crash old mid new counts named (Err e) told (Err Outside) (λ Whole log leaves. leaves.0);
        asked = (2, told.asked ∙ named.asked);
        plan_first = λ w is lacks. let first = named.plan_first w is lacks in (first.0, told.asked ∙ first.1);
        later = omega (arith, named.later, told.cause.later);
        failed = λ is. let rose = told.cause.failed in omega (arith, named.later, rose);
        back = back_then old mid new counts named (Err e) told;
      }
