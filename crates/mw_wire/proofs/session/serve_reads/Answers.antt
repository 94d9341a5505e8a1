use Rattle.std.proofs.Common.{◌≡◌, ℕ, List, [], ◌++◌, ◌∙◌, ◌≤◌, take, drop, length, ap, rules, refl, inl, inr, sym, subst, arith}
use Rattle.std.proofs.lemmas.Result.{err_from_is_err_and}
use Rattle.std.proofs.KnownBytes.{Consumes-nil, Consumes-trans, Consumes-kept}
use Rattle.mw_model.specs.declared.codes.Code.TheVariants.{Memory}
use Rattle.mw_model.specs.Lines.{Partial}
use Rattle.mw_wire.specs.declared.fault.SessionFault.TheVariants.{Read}
use Rattle.mw_session_intake.specs.Reading.{front}
use Rattle.mw_session_intake.proofs.Front.{front_empty}
use Rattle.mw_wire.proofs.Ends.{Progress, progress-start, progress-more, progress-drained}
use Rattle.mw_wire.proofs.Serving.{take-front, progress-kept, ran-finished, ran-broken, ran-held, ran-stopped, ran-ended, ran-to-end, write-failed, error-is}
use Rattle.mw_wire.proofs.session.serve_reads.Goals as goal

pub returns-in-Err-clause-ran : goal.returns-in-Err-clause-ran
returns-in-Err-clause-ran g c =
    let kept = c.args.kept.now in
    let had = g.R.Read.remaining c.args.source.now.inner in
    let x = g.W.Write.contents c.args.sink.now.inner in
    ran-ended g.D.Handler.Answer kept kept had had [] [] x x (g.W.Write.contents c.end_by.new.sink.inner) Memory c.end_by.result (Consumes-nil had) (progress-start g.D.Handler.Answer [] kept x) (inr (inr refl), λ e. inl refl) c.end_by.ensures.wrote _ c.end_by.ensures.remembers.flag

pub reads-init : goal.reads-init
reads-init g c =
    let kept = c.args.kept.now in
    let x = g.W.Write.contents c.args.sink.now.inner in
    record {
      taken = [];
      read = Consumes-nil (g.R.Read.remaining c.args.source.now.inner);
      progress = let P : List ℕ → Type 0 = λ l. Progress g.D.Handler.Answer [] l kept kept x x in subst P (sym c.new-intake.ensures.bytes) (progress-start g.D.Handler.Answer [] kept x);
      waits = let P : List ℕ → Type 0 = λ l. front l ≡ Partial in subst P (sym c.new-intake.ensures.bytes) front_empty;
      is_open = inl c.new-intake.ensures.loose;
      source_clear = c.requires.source_fresh.clear;
      sink_clear = c.requires.sink_clear;
      reads = omega (arith, c.requires.source_fresh.none);
      buffer = c.in-Ok.ensures.len;
    }

pub returns-in_err-n-clause-ran : goal.returns-in_err-n-clause-ran
returns-in_err-n-clause-ran g c =
    let i = c.reads.invariant in
    let now = progress-kept g.D.Handler.Answer i.taken c.reads.intake.bytes c.args.kept.now c.reads.kept (g.W.Write.contents c.args.sink.now.inner) (g.W.Write.contents c.reads.sink.inner) (g.W.Write.contents c.pass_on.new.sink.inner) i.progress c.pass_on.ensures.same_bytes in
    let is_read : c.in_err-n.field-0.0 ≡ Read = let e = c.in_err-n.ensures.fault.0 in cc in
    let p = err_from_is_err_and c.from_residual-in_err-n.result c.from_residual-in_err-n.ensures.1 in
    rw (p.1, p.2)
    (ran-stopped g.D.Handler.Answer c.args.kept.now c.reads.kept (g.R.Read.remaining c.args.source.now.inner) (g.R.Read.remaining c.receive.new.source.inner) i.taken c.reads.intake.bytes
    (g.W.Write.contents c.args.sink.now.inner) (g.W.Write.contents c.pass_on.new.sink.inner) c.in_err-n.field-0.0 (Consumes-kept _ _ _ _ i.read c.in_err-n.ensures.err) now i.waits is_read)

pub returns-then-n-eq0-clause-ran : goal.returns-then-n-eq0-clause-ran
returns-then-n-eq0-clause-ran g c =
    let i = c.reads.invariant in
    let now = progress-kept g.D.Handler.Answer i.taken c.reads.intake.bytes c.args.kept.now c.reads.kept (g.W.Write.contents c.args.sink.now.inner) (g.W.Write.contents c.reads.sink.inner) (g.W.Write.contents c.pass_on.new.sink.inner) i.progress c.pass_on.ensures.same_bytes in
    let zero : c.in_ok-n.n ≡ 0 = omega (arith, c.if-n-eq0.true) in
    ran-to-end g.D.Handler.Answer c.args.kept.now c.reads.kept (g.R.Read.remaining c.args.source.now.inner) (g.R.Read.remaining c.reads.source.inner) (g.R.Read.remaining c.receive.new.source.inner) i.taken c.reads.intake.bytes
    (g.W.Write.contents c.args.sink.now.inner) (g.W.Write.contents c.pass_on.new.sink.inner) (g.W.Write.contents c.end_of_input.new.sink.inner) c.end_of_input.result i.read (rw zero at c.in_ok-n.ensures.ok) (c.in_ok-n.ensures.end zero)
    now i.waits c.end_of_input.ensures.quit c.end_of_input.ensures.cut _ c.end_of_input.ensures.remembers.flag

pub returns-then-n-eq0-clause-failures : goal.returns-then-n-eq0-clause-failures
returns-then-n-eq0-clause-failures g c = record {
  few_reads = search rules;
  read_fault = search rules;
  write_fault = search rules;
  reader_failed = search rules;
  writer_failed = write-failed c.end_of_input.result c.end_of_input.new.sink.failed c.pass_on.new.sink.failed (c.in_ok-pass_on.ensures.remembers.kept ∙ c.reads.invariant.sink_clear) c.end_of_input.ensures.remembers.kept c.end_of_input.ensures.remembers.flag;
}

pub returns-in_err-end-clause-ran : goal.returns-in_err-end-clause-ran
returns-in_err-end-clause-ran g c =
    let i = c.reads.invariant in
    let now = progress-kept g.D.Handler.Answer i.taken c.reads.intake.bytes c.args.kept.now c.reads.kept (g.W.Write.contents c.args.sink.now.inner) (g.W.Write.contents c.reads.sink.inner) (g.W.Write.contents c.pass_on.new.sink.inner) i.progress c.pass_on.ensures.same_bytes in
    let x = g.W.Write.contents c.args.sink.now.inner in
    let y = g.W.Write.contents c.pass_on.new.sink.inner in
    let left = g.R.Read.remaining c.receive.new.source.inner in
    let piece = take c.in_ok-n.n c.receive.new.buffer in
    let fits : c.in_ok-n.n ≤ c.reads.buffer.len = search rules in
    let same : take c.in_ok-n.n c.deref.result.now ≡ piece = ap (λ l. take c.in_ok-n.n l) c.deref.ensures.value ∙ take-front c.in_ok-n.n c.reads.buffer.len c.receive.new.buffer (drop (length c.receive.new.buffer) c.reads.buffer.items) c.in_ok-n.ensures.bound fits in
    let h = progress-more g.D.Handler.Answer i.taken piece c.reads.intake.bytes c.args.kept.now c.reads.kept x y now in
    let p = err_from_is_err_and c.from_residual-in_err-end.result c.from_residual-in_err-end.ensures.1 in
    rw (p.1, p.2)
    (ran-broken g.D.Handler.Answer c.args.kept.now c.reads.kept c.serve_piece.new.kept (g.R.Read.remaining c.args.source.now.inner) left (i.taken ++ piece) (c.reads.intake.bytes ++ piece) c.serve_piece.new.intake x y (g.W.Write.contents c.serve_piece.new.sink.inner) c.in_err-end.field-0.0
    (Consumes-trans _ _ _ i.taken piece i.read c.in_ok-n.ensures.ok) h (rw same at (c.in_err-end.ensures.ran left)))

pub returns-in-Some-clause-ran : goal.returns-in-Some-clause-ran
returns-in-Some-clause-ran g c =
    let i = c.reads.invariant in
    let now = progress-kept g.D.Handler.Answer i.taken c.reads.intake.bytes c.args.kept.now c.reads.kept (g.W.Write.contents c.args.sink.now.inner) (g.W.Write.contents c.reads.sink.inner) (g.W.Write.contents c.pass_on.new.sink.inner) i.progress c.pass_on.ensures.same_bytes in
    let x = g.W.Write.contents c.args.sink.now.inner in
    let y = g.W.Write.contents c.pass_on.new.sink.inner in
    let left = g.R.Read.remaining c.receive.new.source.inner in
    let piece = take c.in_ok-n.n c.receive.new.buffer in
    let fits : c.in_ok-n.n ≤ c.reads.buffer.len = search rules in
    let same : take c.in_ok-n.n c.deref.result.now ≡ piece = ap (λ l. take c.in_ok-n.n l) c.deref.ensures.value ∙ take-front c.in_ok-n.n c.reads.buffer.len c.receive.new.buffer (drop (length c.receive.new.buffer) c.reads.buffer.items) c.in_ok-n.ensures.bound fits in
    let h = progress-more g.D.Handler.Answer i.taken piece c.reads.intake.bytes c.args.kept.now c.reads.kept x y now in
    ran-finished g.D.Handler.Answer c.args.kept.now c.reads.kept c.serve_piece.new.kept (g.R.Read.remaining c.args.source.now.inner) left (i.taken ++ piece) (c.reads.intake.bytes ++ piece) c.serve_piece.new.intake x y (g.W.Write.contents c.serve_piece.new.sink.inner) c.in-Some.end
    (Consumes-trans _ _ _ i.taken piece i.read c.in_ok-n.ensures.ok) h (rw (same, c.in-Some.is) at (c.in_ok-end.ensures.ran left))

pub reads-preserved : goal.reads-preserved
reads-preserved g c =
    let i = c.reads.invariant in
    let now = progress-kept g.D.Handler.Answer i.taken c.reads.intake.bytes c.args.kept.now c.reads.kept (g.W.Write.contents c.args.sink.now.inner) (g.W.Write.contents c.reads.sink.inner) (g.W.Write.contents c.pass_on.new.sink.inner) i.progress c.pass_on.ensures.same_bytes in
    let x = g.W.Write.contents c.args.sink.now.inner in
    let y = g.W.Write.contents c.pass_on.new.sink.inner in
    let left = g.R.Read.remaining c.receive.new.source.inner in
    let piece = take c.in_ok-n.n c.receive.new.buffer in
    let fits : c.in_ok-n.n ≤ c.reads.buffer.len = search rules in
    let same : take c.in_ok-n.n c.deref.result.now ≡ piece = ap (λ l. take c.in_ok-n.n l) c.deref.ensures.value ∙ take-front c.in_ok-n.n c.reads.buffer.len c.receive.new.buffer (drop (length c.receive.new.buffer) c.reads.buffer.items) c.in_ok-n.ensures.bound fits in
    let h = progress-more g.D.Handler.Answer i.taken piece c.reads.intake.bytes c.args.kept.now c.reads.kept x y now in
    record {
      taken = i.taken ++ piece;
      read = Consumes-trans _ _ _ i.taken piece i.read c.in_ok-n.ensures.ok;
      progress = progress-drained g.D.Handler.Answer (i.taken ++ piece) (c.reads.intake.bytes ++ piece) c.serve_piece.new.intake.bytes c.args.kept.now c.reads.kept c.serve_piece.new.kept x y (g.W.Write.contents c.serve_piece.new.sink.inner) h
          (rw (same, c.in_default.is) at (c.in_ok-end.ensures.ran left));
      waits = c.in_ok-end.ensures.waits c.in_default.is;
      is_open = c.in_ok-end.ensures.is_open c.in_default.is;
      source_clear = c.in_ok-n.ensures.kept ∙ i.source_clear;
      sink_clear = c.in_ok-end.ensures.remembers.kept ∙ c.in_ok-pass_on.ensures.remembers.kept ∙ i.sink_clear;
      reads = c.receive.ensures.few_reads;
      buffer = i.buffer;
    }

pub returns-clause-ran : goal.returns-clause-ran
returns-clause-ran g c =
    let i = c.reads.invariant in
    let h = progress-kept g.D.Handler.Answer i.taken c.reads.intake.bytes c.args.kept.now c.reads.kept (g.W.Write.contents c.args.sink.now.inner) (g.W.Write.contents c.reads.sink.inner) (g.W.Write.contents c.pass_on-2.new.sink.inner) i.progress c.pass_on-2.ensures.same_bytes in
    ran-stopped g.D.Handler.Answer c.args.kept.now c.reads.kept (g.R.Read.remaining c.args.source.now.inner) (g.R.Read.remaining c.reads.source.inner) i.taken c.reads.intake.bytes
    (g.W.Write.contents c.args.sink.now.inner) (g.W.Write.contents c.pass_on-2.new.sink.inner) _ i.read h i.waits refl

pub returns-in_err-pass_on-clause-ran : goal.returns-in_err-pass_on-clause-ran
returns-in_err-pass_on-clause-ran g c =
    let i = c.reads.invariant in
    let p = err_from_is_err_and c.from_residual.result c.from_residual.ensures.1 in
    rw (p.1, p.2)
    (ran-held g.D.Handler.Answer c.args.kept.now c.reads.kept (g.R.Read.remaining c.args.source.now.inner) (g.R.Read.remaining c.reads.source.inner) i.taken c.reads.intake.bytes
    (g.W.Write.contents c.args.sink.now.inner) (g.W.Write.contents c.reads.sink.inner) (g.W.Write.contents c.pass_on.new.sink.inner) _ i.read i.progress i.waits c.pass_on.ensures.same_bytes (error-is _ _ refl c.in_err-pass_on.ensures.remembers.flag.0))

pub returns-in_err-pass_on-2-clause-ran : goal.returns-in_err-pass_on-2-clause-ran
returns-in_err-pass_on-2-clause-ran g c =
    let i = c.reads.invariant in
    let p = err_from_is_err_and c.from_residual-in_err-pass_on-2.result c.from_residual-in_err-pass_on-2.ensures.1 in
    rw (p.1, p.2)
    (ran-held g.D.Handler.Answer c.args.kept.now c.reads.kept (g.R.Read.remaining c.args.source.now.inner) (g.R.Read.remaining c.reads.source.inner) i.taken c.reads.intake.bytes
    (g.W.Write.contents c.args.sink.now.inner) (g.W.Write.contents c.reads.sink.inner) (g.W.Write.contents c.pass_on-2.new.sink.inner) _ i.read i.progress i.waits c.pass_on-2.ensures.same_bytes (error-is _ _ refl c.in_err-pass_on-2.ensures.remembers.flag.0))

pub returns-in_err-pass_on-clause-failures : goal.returns-in_err-pass_on-clause-failures
returns-in_err-pass_on-clause-failures g c = record {
  few_reads = search rules;
  read_fault = search rules;
  write_fault = search rules;
  reader_failed = search rules;
  writer_failed = λ t. let p = err_from_is_err_and c.from_residual.result c.from_residual.ensures.1 in let q = error-is c.in_err-pass_on.field-0.0 _ refl c.in_err-pass_on.ensures.remembers.flag.0 in rw (p.1, p.2, q) refl;
}

pub returns-in_err-n-clause-failures : goal.returns-in_err-n-clause-failures
returns-in_err-n-clause-failures g c = record {
  few_reads = search rules;
  read_fault = search rules;
  write_fault = search rules;
  reader_failed = search rules;
  writer_failed = search rules;
}

pub returns-in_err-end-clause-failures : goal.returns-in_err-end-clause-failures
returns-in_err-end-clause-failures g c = record {
  few_reads = search rules;
  read_fault = search rules;
  write_fault = search rules;
  reader_failed = search rules;
  writer_failed = search rules;
}

pub returns-in-Some-clause-failures : goal.returns-in-Some-clause-failures
returns-in-Some-clause-failures g c = record {
  few_reads = search rules;
  read_fault = search rules;
  write_fault = search rules;
  reader_failed = search rules;
  writer_failed = search rules;
}

pub returns-in_err-pass_on-2-clause-failures : goal.returns-in_err-pass_on-2-clause-failures
returns-in_err-pass_on-2-clause-failures g c = record {
  few_reads = search rules;
  read_fault = search rules;
  write_fault = search rules;
  reader_failed = search rules;
  writer_failed = λ t. let p = err_from_is_err_and c.from_residual-in_err-pass_on-2.result c.from_residual-in_err-pass_on-2.ensures.1 in let q = error-is c.in_err-pass_on-2.field-0.0 _ refl c.in_err-pass_on-2.ensures.remembers.flag.0 in rw (p.1, p.2, q) refl;
}

pub returns-clause-failures : goal.returns-clause-failures
returns-clause-failures g c = record {
  few_reads = search rules;
  read_fault = search rules;
  write_fault = search rules;
  reader_failed = search rules;
  writer_failed = search rules;
}
