use Rattle.wire_routes.proofs.routing.answer_at.Goals as goal

pub returns-in-Object : goal.returns-in-Object
returns-in-Object c = rw c.in-Object.is (c.object.ensures c.args.body.now)

pub returns-in-Tick : goal.returns-in-Tick
returns-in-Tick c = rw c.in-Tick.is (c.tick.ensures c.args.body.now)

pub returns-in-Notices : goal.returns-in-Notices
returns-in-Notices c = rw c.in-Notices.is (c.notices.ensures c.args.body.now)

pub returns-in-Take : goal.returns-in-Take
returns-in-Take c = rw c.in-Take.is (c.take.ensures c.args.body.now)

pub returns-in-Upgrade : goal.returns-in-Upgrade
returns-in-Upgrade c = rw c.in-Upgrade.is (c.upgrade.ensures c.args.body.now)

pub returns-in-Budgets : goal.returns-in-Budgets
returns-in-Budgets c = rw c.in-Budgets.is (c.budgets.ensures c.args.body.now)

pub returns-in-Burns : goal.returns-in-Burns
returns-in-Burns c = rw c.in-Burns.is (c.burns.ensures c.args.body.now)

pub returns-in-Alerts : goal.returns-in-Alerts
returns-in-Alerts c = rw c.in-Alerts.is (c.alerts.ensures c.args.body.now)

pub returns-in-Entries : goal.returns-in-Entries
returns-in-Entries c = rw c.in-Entries.is (c.entries.ensures c.args.body.now)

pub returns-in-Row : goal.returns-in-Row
returns-in-Row c = rw c.in-Row.is (c.row.ensures c.args.body.now)

pub returns-in-Exclusions : goal.returns-in-Exclusions
returns-in-Exclusions c = rw c.in-Exclusions.is (c.exclusions.ensures c.args.body.now)

pub returns-in-Zones : goal.returns-in-Zones
returns-in-Zones c = rw c.in-Zones.is (c.zones.ensures c.args.body.now)

pub returns-in-Status : goal.returns-in-Status
returns-in-Status c = rw c.in-Status.is (c.status.ensures c.args.body.now)

pub returns-in-Sums : goal.returns-in-Sums
returns-in-Sums c = rw c.in-Sums.is (c.sums.ensures c.args.body.now)

pub returns-in-Windows : goal.returns-in-Windows
returns-in-Windows c = rw c.in-Windows.is (c.windows.ensures c.args.body.now)
