mod Gone
