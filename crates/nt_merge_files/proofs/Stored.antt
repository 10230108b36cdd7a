-- The parts of merging files of a host, joined.
use Rattle.std.proofs.Common.{◌≡◌, ◌∙◌, inl, inr, ap, sym, subst, refl, ℕ, List, [], ◌++◌, map, length, take, drop, Some, Result, Ok, Err}
use Rattle.std.proofs.Common.{append-nil, arith}
use Rattle.std.proofs.lemmas.List.{take-append-drop}
use Rattle.nt_types.specs.TreeData.{TreesData}
use Rattle.nt_outside.specs.declared.fault.Failed.{Failed}
use Rattle.nt_outside.specs.declared.stream.Stream.TheVariants.{ToOut}
use Rattle.nt_outside.specs.Log.{Step}
use Rattle.nt_outside.specs.Order.{FirstByteLast, EndsInSync}
use Rattle.nt_outside.specs.World.{World, Asked, File, HostState, PrintsAll, prints}
use Rattle.nt_book.specs.declared.params.Params.{Params}
use Rattle.nt_store.specs.Worlds.{AsksFirst, LeavesOut, WritesInOrder, IsLeftAfter}
use Rattle.nt_store.proofs.Asking.{asks_all}
use Rattle.nt_store.proofs.Refused.{world_is}
use Rattle.nt_script.specs.declared.storing.Counts.{Counts}
use Rattle.nt_script.specs.Whole.{counts_line, line_of_clusters}
use Rattle.nt_merge_files.specs.declared.error.MergeStoreError.{MergeStoreError}
use Rattle.nt_merge_files.specs.declared.error.MergeStoreError.TheVariants.{Outside, Memory, Defect, Schema, Limit}
use Rattle.nt_merge_files.specs.Crashes.{MergeCrash, MergeCrashTold}
use Rattle.nt_merge_files.specs.Files.{AreThere}
use Rattle.nt_merge_files.specs.Whole.{IsMergeOf}
use Rattle.nt_merge_files.specs.Storing.{MakesMerged, merge_asked, IsWholeMergeOf, MergeNamedTold, MergesNamed, StoresMerge, MergeTold}
use Rattle.nt_merge_files.specs.Storing.{AsksFilesFirst, StoresMerged}
use Rattle.nt_merge_files.proofs.Crashes.{written-in-order, order-left, leaves-behind, behind-as}

module _ (out : List ℕ) (names : List (List ℕ)) (p : Params) where
  -- ---- the file isn't written

  unwritten-told : (w w' : World) → w'.out ≡ w.out → (e : MergeStoreError) → MergeNamedTold out names p w w' (Err e)
      → MergeTold out names p w w' (Err e)
  unwritten-told w w' same Outside (inl left) = inl (left, same)
  unwritten-told w w' same Outside (inr whole) =
      let makes = whole.has.0 in
      inr (inl (
        line_of_clusters makes.whole.0,
        record {
          bytes = whole.bytes;
          there = whole.there;
          clusters = makes.whole.0;
          makes = record { made = makes.made; image = makes.image; file_is = makes.file_is; whole = makes.whole.1 };
          line = refl;
          gained = same ∙ sym (append-nil w.out);
        },
        whole.has.1,
      ))
  unwritten-told w w' same Memory left = (left, same)
  unwritten-told w w' same (Defect file e) told = (told, same)
  unwritten-told w w' same (Schema place) told = (told.0, told.1, same)
  unwritten-told w w' same (Limit reached limit) told = (told.0, told.1, same)

  unwritten-crash : (Whole : List ℕ → Type 0) (log : List Step) (e : MergeStoreError) → MergeCrash {T = Counts} Whole log (Err e)
      → MergeCrash {T = Unit {0}} Whole log (Err e)
  unwritten-crash Whole log Outside leaves = leaves
  unwritten-crash Whole log Memory leaves = leaves
  unwritten-crash Whole log (Defect file e) leaves = leaves
  unwritten-crash Whole log (Schema place) leaves = leaves
  unwritten-crash Whole log (Limit reached limit) leaves = leaves

  pub unwritten : (old new : HostState) (e : MergeStoreError) → MergesNamed out names p old new (Err e)
      → StoresMerged out names p old new (Err e)
  unwritten old new e named = record {
    told = λ w is.
        let back = named.told w is in (back.0, back.1, back.2, back.4, unwritten-told w back.0 back.3 e back.5);
    order = named.order;
    crash = λ w w' is is' made.
        let Whole : List ℕ → Type 0 = IsWholeMergeOf names p w in
        leaves-behind out w' {T = Unit {0}} Whole (Err e)
        (behind-as out w' Whole (Err e) {S = Unit {0}} (Err e) (λ log leaves. unwritten-crash Whole log e leaves)
        (named.crash w w' is is' made));
    asked = named.asked;
    plan_first = named.plan_first;
    later = named.later;
    failed = λ is. named.failed (cc is);
    back = named.back;
  }

  -- ---- it is, and its numbers are told, or a front of their line

  module _ (old mid new : HostState) (counts : Counts) (named : MergesNamed out names p old mid (Ok counts))
      (result : Result Unit Failed) (told : PrintsAll ToOut (counts_line counts.clusters counts.entries) mid new result) where
    abbrev line : List ℕ
    line = counts_line counts.clusters counts.entries

    -- what was made, and the world then
    record HasMade (w : World) : Type 0 where
      w1 : World
      world : mid.world ≡ Some w1
      same : w1.out ≡ w.out
      bytes : List (List ℕ)
      there : AreThere w names bytes
      clusters : List (List TreesData)
      makes : MakesMerged (IsMergeOf p bytes clusters) out w w1
      ends : IsLeftAfter EndsInSync out w1
      line_is : line_of_clusters clusters ≡ line

    made-by : (w : World) → old.world ≡ Some w → HasMade w
    made-by w is =
        let back = named.told w is in
        let has = back.5.has in
        record {
          w1 = back.0;
          world = back.1;
          same = back.3;
          bytes = back.5.bytes;
          there = back.5.there;
          clusters = has.0;
          makes = has.1;
          ends = has.2;
          line_is = sym (ap (λ (n : ℕ). counts_line n counts.entries) has.3.clusters_are
              ∙ ap (λ (n : ℕ). counts_line (length has.0) n) has.3.entries_are);
        }

    -- a whole file of which so much of its line is printed
    stores : (w : World) (made : HasMade w) (printed behind : List ℕ) → line ≡ printed ++ behind
        → StoresMerge out names p w (prints ToOut printed made.w1) printed behind
    stores w made printed behind is = record {
      bytes = made.bytes;
      there = made.there;
      clusters = made.clusters;
      makes = record {
        made = made.makes.made;
        image = made.makes.image;
        file_is = made.makes.file_is;
        whole = made.makes.whole;
      };
      line = made.line_is ∙ is;
      gained = ap (λ (l : List ℕ). l ++ printed) made.same;
    }

    -- a print leaves the steps of the file
    left-after-print : (Ends : List Step → Type 0) (w1 : World) (printed : List ℕ) → IsLeftAfter Ends out w1
        → IsLeftAfter Ends out (prints ToOut printed w1)
    left-after-print Ends w1 printed left =
        record { at = left.at; log = left.log; there = left.there; steps = left.steps; ends = left.ends }

    printed-left : (Ends : List Step → Type 0) (w : World) (made : HasMade w) → IsLeftAfter Ends out made.w1 → (w' : World)
        → new.world ≡ Some w' → IsLeftAfter Ends out w'
    printed-left Ends w made left w' is =
        let front = told.front made.w1 made.world in
        subst (IsLeftAfter Ends out) (world_is (prints ToOut (take front.0 line) made.w1) w' (sym front.2 ∙ is))
        (left-after-print Ends made.w1 (take front.0 line) left)

    printed-order : WritesInOrder out old.world new.world
    printed-order w w' is is' disk-made =
        let made = made-by w is in
        written-in-order out w'
        (printed-left FirstByteLast w made (order-left out made.w1 (named.order w made.w1 is made.world made.makes.made)) w' is')

    printed-crash : (ended : Result Unit MergeStoreError)
        → ((Whole : List ℕ → Type 0) (log : List Step) → MergeCrash {T = Counts} Whole log (Ok counts) → MergeCrash Whole log ended)
        → MergeCrashTold (IsWholeMergeOf names p) out old.world new.world ended
    printed-crash ended later w w' is is' disk-made =
        let made = made-by w is in
        let Whole : List ℕ → Type 0 = IsWholeMergeOf names p w in
        leaves-behind out w' Whole ended
        (printed-left (λ (log : List Step). MergeCrash Whole log ended) w made
        (behind-as out made.w1 Whole (Ok counts) ended (later Whole) (named.crash w made.w1 is made.world made.makes.made)) w' is')

    back-then : LeavesOut 0 old new
    back-then = record {
      err_faults = told.other ∙ named.back.err_faults;
      opened = omega (arith, told.opened, named.back.opened);
    }

  -- a print asks for nothing
  asked-first-then : (old mid new : HostState) → new.asked ≡ mid.asked → AsksFilesFirst names old mid → AsksFilesFirst names old new
  asked-first-then old mid new same first w is none =
      subst (λ (l : List Asked). AsksFirst (map File names) old.asked l) (sym same) (first w is none)

  pub stored : (old mid new : HostState) (counts : Counts) → MergesNamed out names p old mid (Ok counts)
      → PrintsAll ToOut (counts_line counts.clusters counts.entries) mid new (Ok tt) → StoresMerged out names p old new (Ok tt)
  unfolding made-by
  stored old mid new counts named told =
      let line = counts_line counts.clusters counts.entries in
      record {
        told = λ w is.
            let back = named.told w is in
            let made = made-by old mid new counts named (Ok tt) told w is in (
              prints ToOut line back.0,
              told.ok back.0 back.1,
              back.2,
              back.4,
              (line, stores old mid new counts named (Ok tt) told w made line [] (sym (append-nil line))),
            );
        order = printed-order old mid new counts named (Ok tt) told;
        crash = printed-crash old mid new counts named (Ok tt) told (Ok tt) (λ Whole log leaves. leaves);
        asked = told.asked ∙ named.asked;
        plan_first = asked-first-then old mid new told.asked named.plan_first;
        later = omega (arith, named.later, told.cause.later);
        failed = λ is. absurd (cc is);
        back = back-then old mid new counts named (Ok tt) told;
      }

  pub untold : (old mid new : HostState) (counts : Counts) (e : Failed) → MergesNamed out names p old mid (Ok counts)
      → PrintsAll ToOut (counts_line counts.clusters counts.entries) mid new (Err e) → StoresMerged out names p old new (Err Outside)
  unfolding made-by
  untold old mid new counts e named told =
      let line = counts_line counts.clusters counts.entries in
      record {
        told = λ w is.
            let back = named.told w is in
            let made = made-by old mid new counts named (Err e) told w is in
            let front = told.front back.0 back.1 in
            let printed = take front.0 line in (
              prints ToOut printed back.0,
              front.2,
              back.2,
              back.4,
              inr (inr (
                printed,
                drop front.0 line,
                stores old mid new counts named (Err e) told w made printed (drop front.0 line) (sym (take-append-drop front.0 line)),
                left-after-print old mid new counts named (Err e) told EndsInSync back.0 printed made.ends,
              )),
            );
        order = printed-order old mid new counts named (Err e) told;
        crash = printed-crash old mid new counts named (Err e) told (Err Outside) (λ Whole log leaves. leaves.0);
        asked = asks_all {T = Unit {0}} (Err Outside) old.asked new.asked (merge_asked out names) (told.asked ∙ named.asked);
        plan_first = asked-first-then old mid new told.asked named.plan_first;
        later = omega (arith, named.later, told.cause.later);
        failed = λ is. let rose = told.cause.failed in omega (arith, named.later, rose);
        back = back-then old mid new counts named (Err e) told;
      }
