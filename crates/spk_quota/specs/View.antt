-- What contracts see of the crate's types.
use Rattle.spk_quota.specs.Data.{QuotaData}
use Rattle.spk_quota.specs.declared.quotas.Quotas.{Quotas}

abbrev pub quotas_view : Quotas → QuotaData
quotas_view q = record { limits = q.limits.items; sessions = q.sessions.items; filters = q.filters.items; messages = q.messages }
