-- The headline theorems of the crates under one roof: where each stands, in the order of the crates. docs/THEOREMS.md
-- says each in a sentence, and those of a line of the bench script, which stand in script/proofs. Assumes nothing.

-- ---- numbers for "no": the first row that holds, both ways; one result for each promise
pub use Rattle.refusal.proofs.Exactly.{exactly, exactly-tests, exactly-given, answered-all}
pub use Rattle.refusal.proofs.Only.{number-apart, hands-only, changes-only}
-- ---- the frame check: every entry of the table, and the good-frame residue
pub use Rattle.fcs.proofs.Rule.{rule}
pub use Rattle.fcs.proofs.Residue.{residue-good, residue-exactly}
-- ---- the codec: a right check, the round trip, the only line without needless escapes, how long a line is
pub use Rattle.frame.proofs.Checks.{check-exactly}
pub use Rattle.frame.proofs.Trip.{trip, round_trip}
pub use Rattle.frame.proofs.Unique.{unique, needed-on_line}
pub use Rattle.frame.proofs.Lengths.{line-most, flag-at-ends, write-fits, write-one-less}
-- ---- the live line: it is the decoder, however its octets are cut, after any noise; what is written comes through
pub use Rattle.receiver.proofs.Only.{receives-only}
pub use Rattle.live.proofs.Decoder.{it-is-the-decoder}
pub use Rattle.live.proofs.Cuts.{cuts, any_way}
pub use Rattle.live.proofs.Noise.{resynchronised}
pub use Rattle.live.proofs.Trip.{lines-come-through}
pub use Rattle.live.proofs.Called.{called-decoder, called-noise, called-lines}
pub use Rattle.live.proofs.Played.{promise-decoder}
pub use Rattle.live.proofs.Asked.{asks-are, asked-decoder}
pub use Rattle.live.proofs.Flags.{flag-4, flag-2, flag-1, flag-3, flag-frame}
pub use Rattle.live.proofs.Answered.{right-check-call}
-- ---- salvage of a capture: what was written, listed and counted is that of the whole; every place once; read again; without damage
pub use Rattle.salvage.proofs.Only.{salvages-only, finishes-only}
pub use Rattle.capture.proofs.Salvaged.{salvage-is}
pub use Rattle.capture.proofs.Places.{every-place, as-they-stood, kept-is-decoded, add-up}
pub use Rattle.capture.proofs.Listed.{listed-exactly, edge-exactly}
pub use Rattle.capture.proofs.Counted.{counts-by-place}
pub use Rattle.capture.proofs.Goods.{good-stretches}
pub use Rattle.capture.proofs.Again.{good-again}
pub use Rattle.capture.proofs.Whole.{whole-comes-out, through-the-receiver}
-- ---- demand 3: in bits over depth, cap, limit and starting beginning; in octets, of the code's record
pub use Rattle.walk.proofs.Demand.{demand3}
pub use Rattle.walk.proofs.Answers.{any-answers}
pub use Rattle.walk.proofs.Begins.{shorter-number}
pub use Rattle.whole_scan.proofs.Demand.{demand3-octets, demand3-identities}
pub use Rattle.whole_scan.proofs.AnyScans.{any-scans}
pub use Rattle.whole_scan.proofs.Run.{run_ends}
pub use Rattle.whole_scan.proofs.Exactly.{run-exactly, new-run-exactly}
-- ---- XID: which payloads are scans and assignments, and whom they mean; the scanner's probe is a scan
pub use Rattle.params.proofs.Exact.{params-exactly, one-reading}
pub use Rattle.xid.proofs.Table.{table-exactly, is-scan-exactly, is-assignment-exactly}
pub use Rattle.xid.proofs.Exactly.{scan-exactly, assignment-exactly, never_both, address-edge}
pub use Rattle.xid.proofs.Ends.{ends-exactly, end-exactly}
pub use Rattle.xid.proofs.Probe.{probe-scan, probe-read}
-- ---- why a device does not answer an XID frame: each condition, both ways, each number, both ways, and the device by them
pub use Rattle.link.proofs.Judged.{wrong-size-exactly}
pub use Rattle.link.proofs.Xids.{to-own-exactly, wrong-address-exactly, wrong-control-exactly, everyone-exactly}
pub use Rattle.link.proofs.Xids.{own-xid-exactly, malformed-all, malformed-own}
pub use Rattle.xid.proofs.Rows.{malformed-exactly, neither-exactly}
pub use Rattle.xid.proofs.Exactly.{bad-address-exactly, other-identity-exactly, other-type-exactly}
pub use Rattle.xid.proofs.Exactly.{other-vendor-exactly, other-scan-exactly}
pub use Rattle.xid.proofs.Told.{silence-numbered}
pub use Rattle.link.proofs.Xids.{row-1, row-2, row-3, row-4, row-5, row-6, row-7, row-8, row-9, row-10, row-none, row-own}
pub use Rattle.link.proofs.Xids.{xid-judged, all-judged, number-silent, answers-exactly}
-- ---- messages: each return code exactly when, and the answer that says it; set tilt alone starts a movement; what
-- ---- the others are answered, octet by octet
pub use Rattle.message.proofs.Exact.{given-24, given-25, given-19, given-05, given-13, given-none}
pub use Rattle.message.proofs.Moves.{moves-exactly, clear-clears, subscribe-subscribes}
pub use Rattle.message.proofs.Fails.{fails-exactly}
pub use Rattle.message.proofs.Words.{declared-exactly, barred-exactly, known-exactly, fits-set, fits-other}
pub use Rattle.message.proofs.Words.{busied-exactly, outside-exactly, code_is, asked_is}
pub use Rattle.message.proofs.Tells.{status-tells, codes-are, information-tells, tilt-tells, tilt-busy}
pub use Rattle.payload.proofs.Laws.{success-is, failure-is}
-- ---- the tests that promises cite, in 01's words, both ways: records, data and events; numbers; silence; what there is to tell
pub use Rattle.record.proofs.Exactly.{allowed-exactly, data-exactly, can-exactly}
pub use Rattle.record.proofs.Accounts.{event-account, fresh-is}
pub use Rattle.antenna.proofs.Angles.{range-exactly, same-exactly}
pub use Rattle.antenna.proofs.Tells.{tells_all, tells-exactly, tells-ascending}
pub use Rattle.antenna.proofs.Codes.{codes-exactly, codes-ascending}
pub use Rattle.control.proofs.Named.{asked-exactly}
pub use Rattle.session.proofs.Numbers.{good-exactly, accepts-exactly, acknowledges-exactly, counts-is}
pub use Rattle.link.proofs.Silence.{own-exactly, quiet-exactly, quiet-payload}
pub use Rattle.poll.proofs.Tells.{to-tell-exactly}
-- ---- what is allowed stays so, and no run from a fresh device meets refusal 6
pub use Rattle.record.proofs.Stays.{event-stays, emptied-stays, end_stays, fresh-allowed}
pub use Rattle.conduct.proofs.Stays.{stays-allowed}
pub use Rattle.conduct.proofs.Runs.{run-allowed, never-refused, event-never-refused}
-- ---- conduct: what comes of any frame; a tilt only when due, and never again; R and S; results and alarms; sessions' ends
pub use Rattle.conduct.proofs.Comes.{comes, comes-so, comes-leaves, comes-says, unaccepted-leaves, ends-leaves}
pub use Rattle.conduct.proofs.Comes.{silence-exactly, silence-keeps as silence-leaves}
pub use Rattle.conduct.proofs.Says.{good-s, changes-are, says-octets, frame-octets}
pub use Rattle.conduct.proofs.Account.{account, session-kept}
pub use Rattle.conduct.proofs.Motions.{owing-exactly, motion-cases}
pub use Rattle.conduct.proofs.Due.{starts-exactly, due-moves-on}
pub use Rattle.conduct.proofs.Again.{accepted-again-after, starts-once}
pub use Rattle.conduct.proofs.Numbers.{r-moves-exactly, r-stays-exactly, s-moves-exactly, s-stays-exactly}
pub use Rattle.conduct.proofs.Results.{result-sent, result-pends, result-dropped, result-cases}
pub use Rattle.conduct.proofs.Told.{raised-cases, told-cases, clears-both, indicated-tells}
pub use Rattle.conduct.proofs.Indicates.{indication-sent, indication-pends}
pub use Rattle.conduct.proofs.Ends.{ends-drop, ends-survive, ends-tell, drops-drop, drops-survive, drops-tell}
pub use Rattle.conduct.proofs.Answers.{snrm-answered, scan-answered, assignment-taken, assignment-silent}
-- ---- the device: one result, its numbers, its frames
pub use Rattle.device.proofs.Only.{judge-only, hear-only}
pub use Rattle.device.proofs.Exact.{judge-all, hear-all, refused-keeps, silence-keeps, frame-tells}
pub use Rattle.device.proofs.Fits.{answer-fits}
pub use Rattle.device.proofs.Says.{judged-octets, scan-octets, assignment-octets, negotiation-octets}
-- ---- the whole bus: hearing, demand 3 with no premise, the installer's job and when it can be done
pub use Rattle.bus.proofs.Heard.{heard-exactly, heard-unchanged}
pub use Rattle.bus.proofs.Scans.{scan-row, scan-any, scan-complete, scan-unchanged}
pub use Rattle.bus.proofs.Lines.{turn-gives, turn-refused, scan-lines, scan-lines-number}
pub use Rattle.bus.proofs.Needs.{installed-exactly}
pub use Rattle.bus.proofs.Job.{scan-installed, job-done}
pub use Rattle.bus.proofs.Examples.{condition-needed, longer-later}
-- ---- "Nothing relies on the caller having checked": nothing is asked, of each function of demand 1
pub use Rattle.device.proofs.Only.{judge-asks, hear-asks}
pub use Rattle.frame.proofs.Only.{decode-asks, deliver-asks}
pub use Rattle.receiver.proofs.Only.{new-asks as receiver-new-asks, receive-asks, receive-in-asks}
pub use Rattle.salvage.proofs.Only.{new-asks as salvage-new-asks, read-asks, finish-asks}
pub use Rattle.block.proofs.Only.{receive-asks as block-receive-asks}
pub use Rattle.writer.proofs.Only.{write-asks}
pub use Rattle.refusal.proofs.Only.{hand-out-asks}
pub use Rattle.capi.proofs.Only.{gorittaem-check-asks, gorittaem-decode-asks, gorittaem-write-asks}
pub use Rattle.capi.proofs.Only.{gorittaem-decode-n-asks, gorittaem-write-n-asks, gorittaem-receive-asks}
pub use Rattle.scan.proofs.Only.{probe-asks}
pub use Rattle.scanner.proofs.Only.{new-asks, report-asks}
pub use Rattle.fresh.proofs.Only.{fresh-asks}
pub use Rattle.event.proofs.Only.{happen-asks}
pub use Rattle.aim.proofs.Only.{aim-at-asks}
pub use Rattle.drives.proofs.Only.{obey-asks}
-- ---- the demands
pub use Rattle.states.proofs.Renews.{renewed-ends}
pub use Rattle.demands.proofs.One.{hear-defined, judge-defined, decode-answers, write-answers, hand-out-answers}
pub use Rattle.demands.proofs.One.{deliver-answers, receiver-new-answers, receive-answers, receive-in-answers}
pub use Rattle.demands.proofs.One.{block-receive-answers, c-receive-answers}
pub use Rattle.demands.proofs.One.{c-decode-n-answers, c-write-n-answers, limit-words}
pub use Rattle.demands.proofs.One.{decode-numbers-78, write-numbers-78, judge-numbers-78, hear-numbers-78}
pub use Rattle.demands.proofs.One.{c-decode-answers, c-write-answers, probe-answers, report-answers, fresh-answers}
pub use Rattle.demands.proofs.One.{happen-answers, aim-answers}
pub use Rattle.demands.proofs.One.{obey-answers, obey-keeps, broken-words}
pub use Rattle.demands.proofs.Two.{written-reads-back, written-heard, tilt-exactly, tilt-owed, tilt-number, tilt-once}
pub use Rattle.demands.proofs.Two.{not-accepted, some-case, each-case, each-octet, judge-case}
pub use Rattle.demands.proofs.Two.{changes, silent-same}
pub use Rattle.demands.proofs.Two.{snrm-heard, snrm-heard-78, never-unallowed, never-longer}
pub use Rattle.demands.proofs.Runs.{runs-exactly, runs-by-exactly, run-ended, runs-end, probe-gives}
pub use Rattle.demands.proofs.Three.{complete-exactly, says-complete, complete-count, complete-lists, never-more, probes-sent}
pub use Rattle.demands.proofs.Three.{complete-probes, count-probes, count-stays, probes-asked, probes-refused}
pub use Rattle.demands.proofs.Three.{limit-exactly, limit-count, limit-names, limit-list}
pub use Rattle.demands.proofs.Three.{full-exactly, full-count, full-names, full-list}
pub use Rattle.demands.proofs.Three.{any-probes, any-stays, any-refused}
pub use Rattle.demands.proofs.Cable.{heard-when, whole_row, installer}
pub use Rattle.demands.proofs.Cable.{row-lines, row-lines-number, complete-lines}
pub use Rattle.demands.proofs.Cases.{starred-hold, further-hold}
-- ---- and of a scan of a row of devices, in code
pub use Rattle.mast.proofs.Demand.{on-cable-fits, sweep-unchanged, sweep-row, sweep-any, sweep-lines-number, sweep-complete}
-- ---- commands to such a row: one result, and a "no" changes nothing
pub use Rattle.drives.proofs.Only.{obey-only}
pub use Rattle.drives.proofs.Keeps.{no-keeps}
