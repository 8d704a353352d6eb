use Rattle.std.proofs.Common.{[], ◌∷◌, refl, ◌≡◌}
use Rattle.std.proofs.lemmas.Result.{err_from_is_err_and}
use Rattle.ibx_elf.specs.Image.{Placed}
use Rattle.ibx_top.specs.declared.outcome.Finish.TheVariants.{Written}
use Rattle.ibx_top.specs.Answers.{Answer, IsFileAnswer, listed}
use Rattle.ibx_top.proofs.Outcomes.{begins, fails, finishes}
use Rattle.ibx_top.proofs.Chain.{loads, reads_file, refuses_file, stops_file}
use Rattle.ibx_top.proofs.dis_command.disassemble.Goals as goal

-- an answer to an image is its listing
abbrev IsListing : Placed → Answer → Type 0
IsListing image answer = answer ≡ listed image

pub returns-in_err-bytes : goal.returns-in_err-bytes
returns-in_err-bytes g c =
    let told = err_from_is_err_and c.from_residual.result c.from_residual.ensures.1 in
    let asked = c.args.asked in
    let start = begins g.F.Files.contents g.F.Files.faults g.F.Files.misses (asked.file.now ∷ [])
    (IsFileAnswer (g.F.Files.contents c.args.files.now) asked.file.now asked.ram IsListing) c.args.files.now in
    rw (told.1, told.2)
    (stops_file g.F.Files.begun g.K.Sink.taken g.K.Sink.faults asked.file.now [] asked.ram IsListing _ c.args.out.now
    start c.read_bytes.ensures.passes c.in_err-bytes.ensures.stops)

pub returns-in_err-image : goal.returns-in_err-image
returns-in_err-image g c =
    let told = err_from_is_err_and c.from_residual-in_err-image.result c.from_residual-in_err-image.ensures.1 in
    let asked = c.args.asked in
    let start = begins g.F.Files.contents g.F.Files.faults g.F.Files.misses (asked.file.now ∷ [])
    (IsFileAnswer (g.F.Files.contents c.args.files.now) asked.file.now asked.ram IsListing) c.args.files.now in
    let read = reads_file asked.file.now [] asked.ram IsListing c.in_ok-bytes.bytes.items start
    c.read_bytes.ensures.passes c.in_ok-bytes.ensures.content in
    rw (told.1, told.2)
    (refuses_file g.F.Files.begun g.K.Sink.taken g.K.Sink.faults asked.file.now asked.ram IsListing
    c.in_ok-bytes.bytes.items c.deref.result.now _ c.args.out.now read c.deref.ensures.value c.in_err-image.ensures.stops)

pub returns-in_err-print_listing : goal.returns-in_err-print_listing
returns-in_err-print_listing g c =
    let told = err_from_is_err_and c.from_residual-in_err-print_listing.result c.from_residual-in_err-print_listing.ensures.1 in
    let asked = c.args.asked in
    let start = begins g.F.Files.contents g.F.Files.faults g.F.Files.misses (asked.file.now ∷ [])
    (IsFileAnswer (g.F.Files.contents c.args.files.now) asked.file.now asked.ram IsListing) c.args.files.now in
    let read = reads_file asked.file.now [] asked.ram IsListing c.in_ok-bytes.bytes.items start
    c.read_bytes.ensures.passes c.in_ok-bytes.ensures.content in
    let loaded = loads asked.file.now asked.ram IsListing c.in_ok-bytes.bytes.items c.deref.result.now c.in_ok-image.image
    read c.deref.ensures.value c.in_ok-bytes.ensures.fits c.in_ok-image.ensures.sound c.in_ok-image.ensures.image in
    rw (told.1, told.2)
    (fails g.F.Files.begun g.K.Sink.taken g.K.Sink.faults (listed c.in_ok-image.image) c.args.out.now c.print_listing.new.out loaded refl refl
    c.in_err-print_listing.ensures.prefix c.in_err-print_listing.ensures.cause.failure)

pub returns : goal.returns
returns g c =
    let asked = c.args.asked in
    let start = begins g.F.Files.contents g.F.Files.faults g.F.Files.misses (asked.file.now ∷ [])
    (IsFileAnswer (g.F.Files.contents c.args.files.now) asked.file.now asked.ram IsListing) c.args.files.now in
    let read = reads_file asked.file.now [] asked.ram IsListing c.in_ok-bytes.bytes.items start
    c.read_bytes.ensures.passes c.in_ok-bytes.ensures.content in
    let loaded = loads asked.file.now asked.ram IsListing c.in_ok-bytes.bytes.items c.deref.result.now c.in_ok-image.image
    read c.deref.ensures.value c.in_ok-bytes.ensures.fits c.in_ok-image.ensures.sound c.in_ok-image.ensures.image in
    finishes g.F.Files.begun g.K.Sink.taken g.K.Sink.faults (listed c.in_ok-image.image) Written c.args.out.now c.print_listing.new.out loaded refl
    record { code = refl; line = refl; seal = refl; text = c.in_ok-print_listing.ensures.whole }
