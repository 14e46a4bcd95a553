use Rattle.std.proofs.Common.{◌≡◌, List, ℕ, Bool, codes, not, option_map, Some, Option, IfOk, refl, sym, subst, true, false}
use Rattle.std.specs.Borrow.{Bor}
use Rattle.std.specs.Str.{bytes_eq}
use Rattle.pth_filter.specs.Objects.{OtherStays, is_file, named}
use Rattle.pth_streams.specs.Inputs.{inputs}
use Rattle.pth_player.specs.Objects.{ObjectCounts}
use Rattle.pth_player.specs.Streams.{TakesUpTo}
use Rattle.pth_player.specs.Play.{ReadsBytes}
use Rattle.pth_player.proofs.Reading.{file_bytes, file_counts, input_bytes, input_counts, named_so, names_input, names_none}
use Rattle.pth_player.proofs.script.read_named.Goals as goal
use Rattle.pth_player.proofs.script.read_named.Goals.{in_default-via-in-Some+else-ne, in_default-via-in_default}

pub returns-in-Some-clause-bytes : goal.returns-in-Some-clause-bytes
returns-in-Some-clause-bytes g c =
    let other : not (bytes_eq c.in-Some.name.now (codes "-")) ≡ true = sym (subst (λ (n : Bor (List ℕ)). true ≡ not (bytes_eq n.now (codes "-"))) c.in-Some.name-is c.if-ne.ensures) in
    let old = inputs (g.S.Source.left c.args.input.now) (g.S.Source.faults c.args.input.now) (g.F.Files.left c.args.files.now) (g.F.Files.held c.args.files.now) (g.F.Files.faults c.args.files.now) in
    let new = inputs (g.S.Source.left c.args.input.now) (g.S.Source.faults c.args.input.now) (g.F.Files.left c.read_file.new.files) (g.F.Files.held c.read_file.new.files) (g.F.Files.faults c.read_file.new.files) in
    let taken = subst (λ (n : Bor (List ℕ)). IfOk c.read_file.result (λ v. TakesUpTo 16777217 (g.F.Files.held c.args.files.now n.now) (g.F.Files.left c.read_file.new.files) v.items)) c.in-Some.name-is c.read_file.ensures.bytes in
    subst (λ (name : Option (List ℕ)). IfOk c.read_file.result (λ v. ReadsBytes (named name) old new v.items)) (sym (named_so c.args.name c.in-Some.name c.in-Some.is))
    (file_bytes c.read_file.result old new c.in-Some.name.now other taken c.read_file.ensures.counts)

pub returns-in-Some-clause-counts : goal.returns-in-Some-clause-counts
returns-in-Some-clause-counts g c =
    let other : not (bytes_eq c.in-Some.name.now (codes "-")) ≡ true = sym (subst (λ (n : Bor (List ℕ)). true ≡ not (bytes_eq n.now (codes "-"))) c.in-Some.name-is c.if-ne.ensures) in
    let old = inputs (g.S.Source.left c.args.input.now) (g.S.Source.faults c.args.input.now) (g.F.Files.left c.args.files.now) (g.F.Files.held c.args.files.now) (g.F.Files.faults c.args.files.now) in
    let new = inputs (g.S.Source.left c.args.input.now) (g.S.Source.faults c.args.input.now) (g.F.Files.left c.read_file.new.files) (g.F.Files.held c.read_file.new.files) (g.F.Files.faults c.read_file.new.files) in
    subst (λ (name : Option (List ℕ)). ObjectCounts (named name) old new c.read_file.result) (sym (named_so c.args.name c.in-Some.name c.in-Some.is))
    (file_counts c.read_file.result old new (Some c.in-Some.name.now) other c.read_file.ensures.counts)

pub returns-in-Some-clause-others : goal.returns-in-Some-clause-others
returns-in-Some-clause-others g c =
    let other : not (bytes_eq c.in-Some.name.now (codes "-")) ≡ true = sym (subst (λ (n : Bor (List ℕ)). true ≡ not (bytes_eq n.now (codes "-"))) c.in-Some.name-is c.if-ne.ensures) in
    subst (λ (name : Option (List ℕ)). OtherStays (is_file name) c.args.input.now c.args.input.now c.args.files.now c.read_file.new.files) (sym (named_so c.args.name c.in-Some.name c.in-Some.is))
    (subst (λ (b : Bool). OtherStays b c.args.input.now c.args.input.now c.args.files.now c.read_file.new.files) (sym other) refl)

pub returns-in_default-clause-bytes : goal.returns-in_default-clause-bytes
returns-in_default-clause-bytes g c =
    let is : is_file (option_map (λ n. n.now) c.args.name) ≡ false = elim c.in_default.branch [
      | in_default-via-in-Some+else-ne w ↦ names_input c.args.name w.in-Some.name w.in-Some.is (subst (λ (n : Bor (List ℕ)). false ≡ not (bytes_eq n.now (codes "-"))) w.in-Some.name-is w.if-ne.ensures)
      | in_default-via-in_default w ↦ names_none c.args.name w.in_default.not-Some
    ] in
    let old = inputs (g.S.Source.left c.args.input.now) (g.S.Source.faults c.args.input.now) (g.F.Files.left c.args.files.now) (g.F.Files.held c.args.files.now) (g.F.Files.faults c.args.files.now) in
    let new = inputs (g.S.Source.left c.read_up_to.new.source) (g.S.Source.faults c.read_up_to.new.source) (g.F.Files.left c.args.files.now) (g.F.Files.held c.args.files.now) (g.F.Files.faults c.args.files.now) in
    input_bytes c.read_up_to.result old new (option_map (λ n. n.now) c.args.name) is c.read_up_to.ensures.bytes c.read_up_to.ensures.counts

pub returns-in_default-clause-counts : goal.returns-in_default-clause-counts
returns-in_default-clause-counts g c =
    let is : is_file (option_map (λ n. n.now) c.args.name) ≡ false = elim c.in_default.branch [
      | in_default-via-in-Some+else-ne w ↦ names_input c.args.name w.in-Some.name w.in-Some.is (subst (λ (n : Bor (List ℕ)). false ≡ not (bytes_eq n.now (codes "-"))) w.in-Some.name-is w.if-ne.ensures)
      | in_default-via-in_default w ↦ names_none c.args.name w.in_default.not-Some
    ] in
    let old = inputs (g.S.Source.left c.args.input.now) (g.S.Source.faults c.args.input.now) (g.F.Files.left c.args.files.now) (g.F.Files.held c.args.files.now) (g.F.Files.faults c.args.files.now) in
    let new = inputs (g.S.Source.left c.read_up_to.new.source) (g.S.Source.faults c.read_up_to.new.source) (g.F.Files.left c.args.files.now) (g.F.Files.held c.args.files.now) (g.F.Files.faults c.args.files.now) in
    input_counts c.read_up_to.result old new (option_map (λ n. n.now) c.args.name) is c.read_up_to.ensures.counts

pub returns-in_default-clause-others : goal.returns-in_default-clause-others
returns-in_default-clause-others g c =
    let is : is_file (option_map (λ n. n.now) c.args.name) ≡ false = elim c.in_default.branch [
      | in_default-via-in-Some+else-ne w ↦ names_input c.args.name w.in-Some.name w.in-Some.is (subst (λ (n : Bor (List ℕ)). false ≡ not (bytes_eq n.now (codes "-"))) w.in-Some.name-is w.if-ne.ensures)
      | in_default-via-in_default w ↦ names_none c.args.name w.in_default.not-Some
    ] in
    subst (λ (b : Bool). OtherStays b c.args.input.now c.read_up_to.new.source c.args.files.now c.args.files.now) (sym is) refl
