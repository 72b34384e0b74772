use Rattle.session_core.proofs.running.run_opened.Goals as goal

pub recover_session-requires-clause-end : goal.recover_session-requires-clause-end
recover_session-requires-clause-end g c =
    let ran = c.in_ok-end.ensures in
    (_, record { left = ran.end; calls = ran.calls; behind = ran.behind; fits = ran.fits; device = ran.device; order = ran.order })

pub returns-clause-report : goal.returns-clause-report
returns-clause-report g c =
    let ran = c.in_ok-end.ensures in
    c.recover_session.ensures.report _ (record { left = ran.end; calls = ran.calls; behind = ran.behind; fits = ran.fits; device = ran.device; order = ran.order })

pub returns-clause-headline : goal.returns-clause-headline
returns-clause-headline g c =
    let ran = c.in_ok-end.ensures in
    c.recover_session.ensures.headline _ (record { left = ran.end; calls = ran.calls; behind = ran.behind; fits = ran.fits; device = ran.device; order = ran.order })
