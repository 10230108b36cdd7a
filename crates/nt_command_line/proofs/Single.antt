-- Words say at most one command.
use Rattle.std.proofs.Common.{◌≡◌, ◌∙◌, ap, sym, subst, ℕ, ◌≤◌, ◌^◌, Bool, false, List, Option, Some, codes}
use Rattle.std.specs.Coded.{×_prop, le_prop}
use Rattle.nt_book.specs.declared.limits.Limits.{Limits}
use Rattle.nt_book.specs.declared.params.Params.{Params}
use Rattle.nt_book.specs.Ranges.{IsFromTo}
use Rattle.nt_draws.specs.Making.{max_events, max_seed, AreContexts}
use Rattle.nt_draws.specs.declared.making.Making.{Making}
use Rattle.nt_command_line.specs.CommandLine.{is_flag_found, IsEntries, IsSchemaCommand, IsScan}
use Rattle.clap.specs.Words.{App}
use Rattle.nt_command_line.specs.Options.{AreLimitsSaid, AreParamsSaid}
use Rattle.nt_command_line.specs.WriteWords.{write_app, IsWrite}
use Rattle.nt_command_line.specs.SeqWords.{seq_app, IsSeq}
use Rattle.nt_command_line.specs.SkimWords.{skim_app, SaidTest, IsSkim}
use Rattle.nt_command_line.specs.MergeWords.{merge_app, AreMergeParams, IsMerge}
use Rattle.nt_command_line.specs.GenWords.{IsGen}
use Rattle.nt_command_line.proofs.Bounds.{same_test}

some_is : (x y : List ℕ) → Some x ≡ Some y → x ≡ y
some_is x y e = cc

-- limits of these numbers, which lie in their ranges
abbrev limits : (r f c : ℕ) → r ≤ 2 ^ 30 → f ≤ 2 ^ 56 → Limits
limits r f c a b = record { range = r; file = f; clusters = c; range_bound = a; file_bound = b }

any_bounds : (r f c : ℕ) (a a' : r ≤ 2 ^ 30) (b b' : f ≤ 2 ^ 56) → limits r f c a b ≡ limits r f c a' b'
any_bounds r f c a a' b b' = ap (λ (x : r ≤ 2 ^ 30). limits r f c x b) (le_prop a a')
    ∙ ap (λ (x : f ≤ 2 ^ 56). limits r f c a' x) (le_prop b b')

-- so are limits
pub same_limits : (l m : Limits) → l.range ≡ m.range → l.file ≡ m.file → l.clusters ≡ m.clusters → l ≡ m
same_limits l m range file clusters =
    subst (λ (r : ℕ). (x : r ≤ 2 ^ 30) → l ≡ limits r m.file m.clusters x m.file_bound) range
    (subst (λ (f : ℕ). (y : f ≤ 2 ^ 56) (x : l.range ≤ 2 ^ 30) → l ≡ limits l.range f m.clusters x y) file
    (λ y x. any_bounds l.range l.file l.clusters l.range_bound x l.file_bound y
    ∙ ap (λ (c : ℕ). limits l.range l.file c x y) clusters) m.file_bound) m.range_bound

-- parameters of these numbers, which lie in their ranges
abbrev params : (c p g : ℕ) (plain staged : Bool) (l : Limits) → IsFromTo 1 1000000 c → IsFromTo 1 1048576 p → IsFromTo 1 10000 g → Params
params c p g plain staged l x y z =
    record {
      cluster = c;
      page = p;
      group = g;
      plain = plain;
      staged = staged;
      limits = l;
      cluster_range = x;
      page_range = y;
      group_range = z;
    }

any_ranges : (c p g : ℕ) (plain staged : Bool) (l : Limits) (x x' : IsFromTo 1 1000000 c) (y y' : IsFromTo 1 1048576 p)
    (z z' : IsFromTo 1 10000 g) → params c p g plain staged l x y z ≡ params c p g plain staged l x' y' z'
any_ranges c p g plain staged l x x' y y' z z' =
    ap (λ (v : IsFromTo 1 1000000 c). params c p g plain staged l v y z) (×_prop le_prop le_prop x x')
    ∙ ap (λ (v : IsFromTo 1 1048576 p). params c p g plain staged l x' v z) (×_prop le_prop le_prop y y')
    ∙ ap (λ (v : IsFromTo 1 10000 g). params c p g plain staged l x' y' v) (×_prop le_prop le_prop z z')

-- parameters of the same numbers are the same
pub params_are : (p q : Params) → p.cluster ≡ q.cluster → p.page ≡ q.page → p.group ≡ q.group → p.plain ≡ q.plain → p.staged ≡ q.staged
    → p.limits ≡ q.limits → p ≡ q
params_are p q cluster page group plain staged limits-are =
    subst (λ (c : ℕ). (x : IsFromTo 1 1000000 c)
    → p ≡ params c q.page q.group q.plain q.staged q.limits x q.page_range q.group_range) cluster
    (subst (λ (n : ℕ). (y : IsFromTo 1 1048576 n) (x : IsFromTo 1 1000000 p.cluster)
    → p ≡ params p.cluster n q.group q.plain q.staged q.limits x y q.group_range) page
    (subst (λ (n : ℕ). (z : IsFromTo 1 10000 n) (y : IsFromTo 1 1048576 p.page) (x : IsFromTo 1 1000000 p.cluster)
    → p ≡ params p.cluster p.page n q.plain q.staged q.limits x y z) group
    (λ z y x. any_ranges p.cluster p.page p.group p.plain p.staged p.limits p.cluster_range x p.page_range y p.group_range z
    ∙ ap (λ (b : Bool). params p.cluster p.page p.group b p.staged p.limits x y z) plain
    ∙ ap (λ (b : Bool). params p.cluster p.page p.group q.plain b p.limits x y z) staged
    ∙ ap (λ (l : Limits). params p.cluster p.page p.group q.plain q.staged l x y z) limits-are) q.group_range) q.page_range) q.cluster_range

limits_said : (a : App) (words : List (List ℕ)) (l m : Limits) → AreLimitsSaid a words l → AreLimitsSaid a words m → l ≡ m
limits_said a words l m one other =
    same_limits l m (one.range ∙ sym other.range) (one.file ∙ sym other.file) (one.clusters ∙ sym other.clusters)

same_params : (a : App) (words : List (List ℕ)) (b : Bool) (p q : Params) → AreParamsSaid a words b p → AreParamsSaid a words b q → p ≡ q
same_params a words b p q one other =
    params_are p q (one.cluster ∙ sym other.cluster) (one.page ∙ sym other.page) (one.group ∙ sym other.group) (one.plain ∙ sym other.plain)
    (one.staged ∙ sym other.staged) (limits_said a words p.limits q.limits one.limits other.limits)

merge_params : (words : List (List ℕ)) (p q : Params) → AreMergeParams words p → AreMergeParams words q → p ≡ q
merge_params words p q one other =
    params_are p q (one.cluster ∙ sym other.cluster) (one.page ∙ sym other.page) (one.group ∙ sym other.group) (one.plain ∙ sym other.plain)
    (one.staged ∙ sym other.staged) (limits_said merge_app words p.limits q.limits one.limits other.limits)

-- what holds of one reading of the words of `write` holds of another
pub same_write : (P : List ℕ → List ℕ → List (List ℕ) → Params → Type 0) (words : List (List ℕ)) (o s o' s' : List ℕ)
    (is is' : List (List ℕ)) (p p' : Params) → IsWrite words o s is p → IsWrite words o' s' is' p' → P o s is p → P o' s' is' p'
same_write P words o s o' s' is is' p p' one other holds =
    let out : o ≡ o' = some_is o o' (sym one.names.out_is ∙ other.names.out_is) in
    let schema : s ≡ s' = some_is s s' (sym one.names.schema_is ∙ other.names.schema_is) in
    let inputs : is ≡ is' = one.names.inputs_are ∙ sym other.names.inputs_are in
    let params : p ≡ p' = same_params write_app words (is_flag_found write_app words (codes "staged")) p p' one.params other.params in
    subst (λ (l : List ℕ). P l s' is' p') out (subst (λ (l : List ℕ). P o l is' p') schema
    (subst (λ (l : List (List ℕ)). P o s l p') inputs (subst (P o s is) params holds)))

-- and so of `seq`
pub same_seq : (P : List ℕ → List ℕ → List ℕ → Params → Type 0) (words : List (List ℕ)) (o s i o' s' i' : List ℕ) (p p' : Params)
    → IsSeq words o s i p → IsSeq words o' s' i' p' → P o s i p → P o' s' i' p'
same_seq P words o s i o' s' i' p p' one other holds =
    let out : o ≡ o' = some_is o o' (sym one.names.out_is ∙ other.names.out_is) in
    let schema : s ≡ s' = some_is s s' (sym one.names.schema_is ∙ other.names.schema_is) in
    let input : i ≡ i' = some_is i i' (sym one.names.input_is ∙ other.names.input_is) in
    let params : p ≡ p' = same_params seq_app words false p p' one.params other.params in
    subst (λ (l : List ℕ). P l s' i' p') out (subst (λ (l : List ℕ). P o l i' p') schema
    (subst (λ (l : List ℕ). P o s l p') input (subst (P o s i) params holds)))

-- and so of `skim`
pub same_skim : (P : List ℕ → List ℕ → List (List ℕ) → Option SaidTest → Params → Type 0) (words : List (List ℕ)) (o f o' f' : List ℕ)
    (ns ns' : List (List ℕ)) (t t' : Option SaidTest) (p p' : Params) → IsSkim words o f ns t p → IsSkim words o' f' ns' t' p'
    → P o f ns t p → P o' f' ns' t' p'
same_skim P words o f o' f' ns ns' t t' p p' one other holds =
    let out : o ≡ o' = some_is o o' (sym one.names_are.out_is ∙ other.names_are.out_is) in
    let file : f ≡ f' = some_is f f' (sym one.names_are.file_is ∙ other.names_are.file_is) in
    let names : ns ≡ ns' = one.names_are.names_are ∙ sym other.names_are.names_are in
    let test : t ≡ t' = same_test _ _ _ t t' one.test_is other.test_is in
    let params : p ≡ p' = same_params skim_app words false p p' one.params other.params in
    subst (λ (l : List ℕ). P l f' ns' t' p') out (subst (λ (l : List ℕ). P o l ns' t' p') file
    (subst (λ (l : List (List ℕ)). P o f l t' p') names (subst (λ (u : Option SaidTest). P o f ns u p') test
    (subst (P o f ns t) params holds))))

-- and so of `merge`
pub same_merge : (P : List ℕ → List (List ℕ) → Params → Type 0) (words : List (List ℕ)) (o o' : List ℕ) (fs fs' : List (List ℕ))
    (p p' : Params) → IsMerge words o fs p → IsMerge words o' fs' p' → P o fs p → P o' fs' p'
same_merge P words o o' fs fs' p p' one other holds =
    let out : o ≡ o' = some_is o o' (sym one.names.out_is ∙ other.names.out_is) in
    let files : fs ≡ fs' = one.names.files_are ∙ sym other.names.files_are in
    let params : p ≡ p' = merge_params words p p' one.params other.params in
    subst (λ (l : List ℕ). P l fs' p') out (subst (λ (l : List (List ℕ)). P o l p') files (subst (P o fs) params holds))

some_number_is : (m n : ℕ) → Some m ≡ Some n → m ≡ n
some_number_is m n e = cc

-- what is made of these numbers, which lie in their ranges
abbrev making : (c e s : ℕ) → AreContexts c → e ≤ max_events → s ≤ max_seed → Making
making c e s x y z = record { contexts = c; events = e; seed = s; contexts_range = x; events_range = y; seed_range = z }

any_making : (c e s : ℕ) (x x' : AreContexts c) (y y' : e ≤ max_events) (z z' : s ≤ max_seed) → making c e s x y z ≡ making c e s x' y' z'
any_making c e s x x' y y' z z' =
    ap (λ (v : AreContexts c). making c e s v y z) (×_prop le_prop le_prop x x')
    ∙ ap (λ (v : e ≤ max_events). making c e s x' v z) (le_prop y y') ∙ ap (λ (v : s ≤ max_seed). making c e s x' y' v) (le_prop z z')

-- what is made of the same numbers is the same
making_is : (m n : Making) → m.contexts ≡ n.contexts → m.events ≡ n.events → m.seed ≡ n.seed → m ≡ n
making_is m n contexts events seed =
    subst (λ (c : ℕ). (x : AreContexts c) → m ≡ making c n.events n.seed x n.events_range n.seed_range) contexts
    (subst (λ (e : ℕ). (y : e ≤ max_events) (x : AreContexts m.contexts) → m ≡ making m.contexts e n.seed x y n.seed_range) events
    (subst (λ (s : ℕ). (z : s ≤ max_seed) (y : m.events ≤ max_events) (x : AreContexts m.contexts)
    → m ≡ making m.contexts m.events s x y z) seed
    (λ z y x. any_making m.contexts m.events m.seed m.contexts_range x m.events_range y m.seed_range z) n.seed_range) n.events_range)
    n.contexts_range

-- of `gen`
pub same_gen : (P : Making → List ℕ → Type 0) (words : List (List ℕ)) (m m' : Making) (o o' : List ℕ) → IsGen words m o
    → IsGen words m' o' → P m o → P m' o'
same_gen P words m m' o o' one other holds =
    let contexts : m.contexts ≡ m'.contexts = some_number_is _ _ (sym one.contexts_is ∙ other.contexts_is) in
    let events : m.events ≡ m'.events = some_number_is _ _ (sym one.events_is ∙ other.events_is) in
    let seed : m.seed ≡ m'.seed = some_number_is _ _ (sym one.seed_is ∙ other.seed_is) in
    let out : o ≡ o' = some_is o o' (sym one.out_is ∙ other.out_is) in
    subst (λ (n : Making). P n o') (making_is m m' contexts events seed) (subst (P m) out holds)

-- of `entries`
pub same_entries : (P : Option ℕ → Option ℕ → List ℕ → Type 0) (words : List (List ℕ)) (f c f' c' : Option ℕ) (n n' : List ℕ)
    → IsEntries words f c n → IsEntries words f' c' n' → P f c n → P f' c' n'
same_entries P words f c f' c' n n' one other holds =
    let from : f ≡ f' = one.from_is ∙ sym other.from_is in
    let count : c ≡ c' = one.count_is ∙ sym other.count_is in
    let name : n ≡ n' = some_is n n' (sym one.file_is ∙ other.file_is) in
    subst (λ (o : Option ℕ). P o c' n') from (subst (λ (o : Option ℕ). P f o n') count (subst (P f c) name holds))

-- of `schema`
pub same_schema : (P : List ℕ → Type 0) (words : List (List ℕ)) (n n' : List ℕ) → IsSchemaCommand words n
    → IsSchemaCommand words n' → P n → P n'
same_schema P words n n' one other holds = subst P (some_is n n' (sym one.file_is ∙ other.file_is)) holds

-- and of `scan`
pub same_scan : (P : List ℕ → Type 0) (words : List (List ℕ)) (n n' : List ℕ) → IsScan words n → IsScan words n' → P n → P n'
same_scan P words n n' one other holds = subst P (some_is n n' (sym one.file_is ∙ other.file_is)) holds
